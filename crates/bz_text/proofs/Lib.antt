pub mod PieceTexts
pub mod Puts
