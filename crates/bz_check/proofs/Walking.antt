-- The walk through a tree: old ends are put back, and what is still to come stays the same.
use Rattle.std.proofs.Common.{◌≡◌, refl, sym, ◌∙◌, ap, ℕ, zero, suc, ◌<◌, List, [], ◌∷◌, ◌++◌, length, reverse, set, ℤ, length-set}
use Rattle.std.proofs.lemmas.List.{reverse-append}
use Rattle.std.specs.List.{AllByRecursion}
use Rattle.bz_algebra.specs.Numbers.{IsNarrow}
use Rattle.bz_model.specs.Points.{coordinate}
use Rattle.bz_tree.specs.declared.NodeBox.{NodeBox}
use Rattle.bz_tree.specs.Boxes.{Box}
use Rattle.bz_tree.specs.Ends.{box_of}
use Rattle.bz_tree.specs.Trees.{with_lower, with_upper}
use Rattle.bz_tree.proofs.NarrowSides.{narrow_at, set_narrow}
use Rattle.bz_check.specs.declared.open_splits.Frame.{Frame}
use Rattle.bz_check.specs.declared.open_splits.Frame.TheVariants as side
use Rattle.bz_check.specs.declared.open_splits.Walk.{Walk}
use Rattle.bz_check.specs.Walks.{Enters, IsOpenSplit, IsWalk, Returns, Turns, box_in, pending}

-- ---- lists
set_back : (xs : List ℤ) (k : ℕ) (v : ℤ) → set (set xs k v) k (coordinate xs k) ≡ xs
set_back [] k v = refl
set_back (x ∷ xs) zero v = refl
set_back (x ∷ xs) (suc k) v = ap (λ (ys : List ℤ). x ∷ ys) (set_back xs k v)

all_more : {X : Type 0} (P : X → Type 0) (xs : List X) (x : X) → AllByRecursion P xs → P x → AllByRecursion P (xs ++ x ∷ [])
all_more P [] x h p = (p, tt)
all_more P (y ∷ xs) x h p = (h.0, all_more P xs x h.1 p)

all_but_last : {X : Type 0} (P : X → Type 0) (xs : List X) (x : X) → AllByRecursion P (xs ++ x ∷ []) → AllByRecursion P xs × P x
all_but_last P [] x h = (tt, h.0)
all_but_last P (y ∷ xs) x h = let rest = all_but_last P xs x h.1 in ((h.0, rest.0), rest.1)

last_first : {X : Type 0} (xs rest : List X) (x : X) → xs ≡ rest ++ x ∷ [] → reverse xs ≡ x ∷ reverse rest
last_first xs rest x e = ap reverse e ∙ reverse-append rest (x ∷ [])

-- ---- old ends are put back
pub upper_back : (box : Box) (k : ℕ) (v : ℤ) → with_upper k (coordinate box.upper k) (with_upper k v box) ≡ box
upper_back box k v = ap (λ (ends : List ℤ). record { lower = box.lower; upper = ends }) (set_back box.upper k v)

pub lower_back : (box : Box) (k : ℕ) (v : ℤ) → with_lower k (coordinate box.lower k) (with_lower k v box) ≡ box
lower_back box k v = ap (λ (ends : List ℤ). record { lower = ends; upper = box.upper }) (set_back box.lower k v)

-- behind the first side of the last open split the second is the next tree to come
pub next_first : (frames rest frames' : List Frame) (place : ℕ) (upper right : ℤ) (box box' : Box) → frames ≡ rest ++ side.First place upper right ∷ [] → box' ≡ with_lower place right (with_upper place upper box) → frames' ≡ rest ++ side.Second place (coordinate box.lower place) ∷ [] → pending (reverse frames) box ≡ box' ∷ pending (reverse frames') box'
next_first frames rest frames' place upper right box box' e b f =
    rw (last_first frames rest (side.First place upper right) e, last_first frames' rest (side.Second place (coordinate box.lower place)) f, b)
    (ap (λ (outer : Box). with_lower place right (with_upper place upper box) ∷ pending (reverse rest) outer) (sym (lower_back (with_upper place upper box) place right)))

-- behind the second side of the last open split that split is done with
pub next_second : (frames rest : List Frame) (place : ℕ) (lower : ℤ) (box box' : Box) → frames ≡ rest ++ side.Second place lower ∷ [] → box' ≡ with_lower place lower box → pending (reverse frames) box ≡ pending (reverse rest) box'
next_second frames rest place lower box box' e b = rw (last_first frames rest (side.Second place lower) e, b) refl

-- in the first side of a split the second is to come
pub entered : (frames frames' : List Frame) (place : ℕ) (left right : ℤ) (box box' : Box) → box' ≡ with_upper place left box → frames' ≡ frames ++ side.First place (coordinate box.upper place) right ∷ [] → pending (reverse frames') box' ≡ with_lower place right box ∷ pending (reverse frames) box
entered frames frames' place left right box box' b f =
    rw (last_first frames' frames (side.First place (coordinate box.upper place) right) f, b)
    (ap (λ (outer : Box). with_lower place right outer ∷ pending (reverse frames) outer) (upper_back box place left))

-- ---- the ends of a walk
pub last_open : (count : ℕ) (w : Walk) (rest : List Frame) (frame : Frame) → IsWalk count w → w.frames.items ≡ rest ++ frame ∷ [] → AllByRecursion (IsOpenSplit count) rest × IsOpenSplit count frame
last_open count w rest frame h e = all_but_last (IsOpenSplit count) rest frame (rw e at h.splits)

pub walk_starts : (count : ℕ) (root : NodeBox) (w : Walk) → length root.lower ≡ count → length root.upper ≡ count → box_in w ≡ box_of root → w.frames.items ≡ [] → IsWalk count w
walk_starts count root w l u b f =
    let low : w.lower.items ≡ root.lower = ap (λ (x : Box). x.lower) b in
    let up : w.upper.items ≡ root.upper = ap (λ (x : Box). x.upper) b in
    record { lowers = ap length low ∙ l; uppers = ap length up ∙ u; narrow = rw low root.lower_narrow; splits = rw f tt }

pub walk_turns : (count place : ℕ) (upper right : ℤ) (old new : Walk) → IsWalk count old → place < count → IsNarrow right → Turns place upper right old new → IsWalk count new
walk_turns count place upper right old new h l n t =
    let low : new.lower.items ≡ set old.lower.items place right = ap (λ (b : Box). b.lower) t.at_least in
    let up : new.upper.items ≡ set old.upper.items place upper = ap (λ (b : Box). b.upper) t.at_least in
    record {
      lowers = ap length low ∙ length-set old.lower.items place right ∙ h.lowers;
      uppers = ap length up ∙ length-set old.upper.items place upper ∙ h.uppers;
      narrow = rw low (set_narrow old.lower.items place right n h.narrow);
      splits = rw t.opened (all_more (IsOpenSplit count) old.frames.items (side.Second place (coordinate old.lower.items place)) h.splits (l, narrow_at old.lower.items place h.narrow));
    }

pub walk_returns : (count place : ℕ) (lower : ℤ) (old new : Walk) → IsWalk count old → IsNarrow lower → Returns place lower old new → IsWalk count new
walk_returns count place lower old new h n t =
    let low : new.lower.items ≡ set old.lower.items place lower = ap (λ (b : Box). b.lower) t.put_back in
    let up : new.upper.items ≡ old.upper.items = ap (λ (b : Box). b.upper) t.put_back in
    record {
      lowers = ap length low ∙ length-set old.lower.items place lower ∙ h.lowers;
      uppers = ap length up ∙ h.uppers;
      narrow = rw low (set_narrow old.lower.items place lower n h.narrow);
      splits = rw t.as_before h.splits;
    }

pub walk_enters : (count place : ℕ) (left right : ℤ) (old new : Walk) → IsWalk count old → place < count → IsNarrow right → Enters place left right old new → IsWalk count new
walk_enters count place left right old new h l n t =
    let low : new.lower.items ≡ old.lower.items = ap (λ (b : Box). b.lower) t.at_most in
    let up : new.upper.items ≡ set old.upper.items place left = ap (λ (b : Box). b.upper) t.at_most in
    record {
      lowers = ap length low ∙ h.lowers;
      uppers = ap length up ∙ length-set old.upper.items place left ∙ h.uppers;
      narrow = rw low h.narrow;
      splits = rw t.opened (all_more (IsOpenSplit count) old.frames.items (side.First place (coordinate old.upper.items place) right) h.splits (l, n));
    }
