-- What putting a text does.
pub use Rattle.bz_text.specs.Putting.{Puts}
