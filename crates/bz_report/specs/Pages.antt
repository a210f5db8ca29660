-- What is added to a page.
use Rattle.std.specs.Prelude.{ℕ, ◌≡◌, List, ◌++◌}
use Rattle.bz_report.specs.declared.pages.Page.{Page}

-- the text stands behind what was written before
abbrev pub Adds : Page → List ℕ → Page → Type 0
Adds before text after = after.text.items ≡ before.text.items ++ text
