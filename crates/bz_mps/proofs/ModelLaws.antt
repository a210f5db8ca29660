-- A text has one model.
use Rattle.std.proofs.Common.{ℕ, pos, Bool, List, [], ◌∷◌, ◌≡◌, refl, sym, ap, ◌∙◌, subst, Option, Some, None}
use Rattle.std.specs.Prelude.{◌<◌, ◌<ℤ◌, ◌^◌, length}
use Rattle.std.specs.List.{AllZip}
use Rattle.std.specs.Option.{ForSome}
use Rattle.std.proofs.Props.{props}
use mathlib.Core.HLevel.{is_prop→PathP}
use Rattle.bz_algebra.specs.Numbers.{IsNarrow}
use Rattle.bz_model.specs.declared.Column.{Column}
use Rattle.bz_model.specs.declared.Model.{Model}
use Rattle.bz_model.specs.declared.Row.{Row}
use Rattle.bz_num.specs.declared.Dec.{Dec}
use Rattle.bz_num.specs.declared.Frac.{Frac}
use Rattle.bz_facts.specs.declared.BoundLine.{BoundLine}
use Rattle.bz_facts.specs.declared.Facts.{Facts}
use Rattle.bz_facts.specs.declared.RowType.{RowType}
use Rattle.bz_facts.proofs.FactLaws.{same_facts}
use Rattle.bz_mps.specs.ColumnEnds.{IsBound}
use Rattle.bz_mps.specs.FactModel.{IsColumnOf, IsModelOf, IsRowOf, ModelOf}
use Rattle.bz_mps.proofs.FractionLaws.{same_fraction}

same_bound : (d : Option Dec) (f g : Option Frac) → IsBound d f → IsBound d g → f ≡ g
same_bound None None None h k = refl
same_bound None None (Some g) h k = absurd k
same_bound None (Some f) g h k = absurd h
same_bound (Some d) None g h k = absurd h
same_bound (Some d) (Some f) None h k = absurd k
same_bound (Some d) (Some f) (Some g) h k = ap Some (same_fraction d f g h k)

row_same : (f g : Row) → f.name ≡ g.name → f.terms ≡ g.terms → f.lower ≡ g.lower → f.upper ≡ g.upper → f ≡ g
row_same f g n t l u = λ i. record {
  name = n i;
  terms = t i;
  lower = l i;
  upper = u i;
  lower_narrow = is_prop→PathP (λ j. ForSome (l j) IsNarrow) (λ j. hlevel props) f.lower_narrow g.lower_narrow i;
  upper_narrow = is_prop→PathP (λ j. ForSome (u j) IsNarrow) (λ j. hlevel props) f.upper_narrow g.upper_narrow i;
}

column_same : (f g : Column) → f.name ≡ g.name → f.integer ≡ g.integer → f.lower ≡ g.lower → f.upper ≡ g.upper → f ≡ g
column_same f g n t l u = λ i. record { name = n i; integer = t i; lower = l i; upper = u i }

model_same : (m n : Model) → m.columns ≡ n.columns → m.rows ≡ n.rows → m.objective ≡ n.objective → m.cost ≡ n.cost → m.constant ≡ n.constant → m.scale ≡ n.scale → m.maximise ≡ n.maximise → m ≡ n
model_same m n c r o k t s x = λ i. record {
  columns = c i;
  rows = r i;
  objective = o i;
  cost = k i;
  constant = t i;
  scale = s i;
  maximise = x i;
  constant_narrow = is_prop→PathP (λ j. IsNarrow (t j)) (λ j. hlevel props) m.constant_narrow n.constant_narrow i;
  scale_positive = is_prop→PathP (λ j. pos 0 <ℤ s j) (λ j. hlevel props) m.scale_positive n.scale_positive i;
  few_columns = is_prop→PathP (λ j. length (c j) < 2 ^ 28) (λ j. hlevel props) m.few_columns n.few_columns i;
  few_rows = is_prop→PathP (λ j. length (r j) < 2 ^ 28) (λ j. hlevel props) m.few_rows n.few_rows i;
}

one_column : (bounds : List BoundLine) (c : ℕ × (List ℕ × Bool)) (f g : Column) → IsColumnOf bounds c f → IsColumnOf bounds c g → f ≡ g
one_column bounds c f g h k = column_same f g (h.named ∙ sym k.named) (h.integer ∙ sym k.integer) (same_bound _ f.lower g.lower h.lower k.lower) (same_bound _ f.upper g.upper h.upper k.upper)

one_row : (facts : Facts) (r : ℕ × RowType) (f g : Row) → IsRowOf facts r f → IsRowOf facts r g → f ≡ g
one_row facts r f g h k = row_same f g (h.named ∙ sym k.named) (h.terms ∙ sym k.terms) (h.lower ∙ sym k.lower) (h.upper ∙ sym k.upper)

each_same : {A B : Type 0} (R : A → B → Type 0) → ((a : A) (b c : B) → R a b → R a c → b ≡ c) → (xs : List A) (ys zs : List B) → AllZip R xs ys → AllZip R xs zs → ys ≡ zs
each_same R f [] [] [] h k = refl
each_same R f [] [] (z ∷ zs) h k = absurd k
each_same R f [] (y ∷ ys) zs h k = absurd h
each_same R f (x ∷ xs) [] zs h k = absurd h
each_same R f (x ∷ xs) (y ∷ ys) [] h k = absurd k
each_same R f (x ∷ xs) (y ∷ ys) (z ∷ zs) h k = ap (λ w. w ∷ ys) (f x y z h.0 k.0) ∙ ap (λ ws. z ∷ ws) (each_same R f xs ys zs h.1 k.1)

-- some facts make one model
pub facts-one_model : (f : Facts) (m n : Model) → IsModelOf f m → IsModelOf f n → m ≡ n
facts-one_model f m n h k = model_same m n
    (each_same (IsColumnOf f.bounds) (one_column f.bounds) _ m.columns n.columns h.columns k.columns)
    (each_same (IsRowOf f) (one_row f) _ m.rows n.rows h.rows k.rows)
    (h.objective ∙ sym k.objective) (h.cost ∙ sym k.cost) (h.constant ∙ sym k.constant) (h.scale ∙ sym k.scale) (h.maximise ∙ sym k.maximise)

-- a text has one model
pub text-one_model : (text : List ℕ) (m n : Model) → ModelOf text m → ModelOf text n → m ≡ n
text-one_model text m n h k =
    facts-one_model k.facts m n (subst (λ (f : Facts). IsModelOf f m) (same_facts text h.facts k.facts h.are k.are) h.model) k.model
