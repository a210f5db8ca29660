use Rattle.std.proofs.Common.{Bor, List, ℕ, [], ◌∷◌, ◌++◌, ◌∙◌, ap, map}
use Rattle.std.specs.Prelude.{bytes_eq}
use Rattle.std.specs.Map.{lookup}
use Rattle.std.proofs.lemmas.List.{map-append}
use Rattle.indexmap.proofs.CallerLemmas.{insert_entry-new}
use Rattle.bz_part.proofs.PartitionLemmas.{lookup-now}
use Rattle.bz_part.proofs.numbers.ColumnNumbers.add.Goals as goal

pub returns : goal.returns
returns c =
    ap (map {B = List ℕ × ℕ} (λ (e : Bor (List ℕ) × ℕ). (e.0.now, e.1)))
    (c.in_ok-insert.ensures.entries
    ∙ insert_entry-new (λ (a : Bor (List ℕ)) (b : Bor (List ℕ)). bytes_eq a.now b.now) c.self.inside.table c.args.name c.args.number
    (lookup-now c.args.name.now c.self.inside.table.entries ∙ ap (lookup (bytes_eq c.args.name.now)) c.self.view_is ∙ c.requires))
    ∙ map-append {B = List ℕ × ℕ} (λ (e : Bor (List ℕ) × ℕ). (e.0.now, e.1)) c.self.inside.table.entries ((c.args.name, c.args.number) ∷ [])
    ∙ ap (λ es. es ++ (c.args.name.now, c.args.number) ∷ []) c.self.view_is
