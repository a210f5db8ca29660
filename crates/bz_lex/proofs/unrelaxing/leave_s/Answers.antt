-- The row of s has another entry, and its right side is 0.
use Rattle.std.proofs.Common.{true, length, ℕ, ◌<◌, ◌≢◌}
use Rattle.bz_tableau.specs.Laws.{place}
use Rattle.bz_tableau.specs.Pivots.{IsPivoted}
use Rattle.bz_tableau.specs.Refusals.{IsRefusal}
use Rattle.bz_lex.specs.Refusals.{IsFirstStop}
use Rattle.bz_lex.specs.Shown.{HasPoint}
use Rattle.bz_lex.proofs.RelaxedLeaving.{s_has_entry, s_may_leave, left_point, left_away}
use Rattle.bz_lex.proofs.Results.{if_ok_then, if_err_then}
use Rattle.bz_lex.proofs.TruePivots.{true_way_stop, own_way}
use Rattle.bz_lex.proofs.unrelaxing.leave_s.Goals as goal

pub unreachable-requires : goal.unreachable-requires
unreachable-requires c =
    let row = rw c.basis.ensures at c.in-Some.ensures in
    s_has_entry c.args.lp.now c.args.tableau.now c.requires.tableau c.requires.point c.requires.zero c.in-Some.row row.0 row.1 c.in-None-find_other_entry.ensures

pub returns-in-Some-find_other_entry-clause-point : goal.returns-in-Some-find_other_entry-clause-point
returns-in-Some-find_other_entry-clause-point c =
    let row = rw c.basis.ensures at c.in-Some.ensures in
    if_ok_then {P = λ x. IsPivoted c.args.tableau.now c.in-Some.row c.in-Some-find_other_entry.column c.pivot.new.self} {Q = λ x. HasPoint c.pivot.new.self} c.pivot.result
    (λ x p. left_point c.args.lp.now c.args.tableau.now c.requires.tableau c.requires.point c.requires.zero c.in-Some.row row.0 row.1 c.in-Some-find_other_entry.column c.in-Some-find_other_entry.ensures c.pivot.new.self p)
    c.pivot.ensures.pivoted

pub returns-in-Some-find_other_entry-clause-left : goal.returns-in-Some-find_other_entry-clause-left
returns-in-Some-find_other_entry-clause-left c =
    let row = rw c.basis.ensures at c.in-Some.ensures in
    if_ok_then {P = λ x. IsPivoted c.args.tableau.now c.in-Some.row c.in-Some-find_other_entry.column c.pivot.new.self} {Q = λ x. (i : ℕ) → i < length c.pivot.new.self.basis → place c.pivot.new.self.basis i ≢ c.args.lp.now.columns} c.pivot.result
    (λ x p. left_away c.args.lp.now c.args.tableau.now c.requires.tableau c.requires.point c.requires.zero c.in-Some.row row.0 row.1 c.in-Some-find_other_entry.column c.in-Some-find_other_entry.ensures c.pivot.new.self p)
    c.pivot.ensures.pivoted

pub returns-in-Some-find_other_entry-clause-refused : goal.returns-in-Some-find_other_entry-clause-refused
returns-in-Some-find_other_entry-clause-refused c =
    let row = rw c.basis.ensures at c.in-Some.ensures in
    if_err_then {P = λ stop. IsRefusal c.args.tableau.now c.in-Some.row c.in-Some-find_other_entry.column stop} {Q = λ stop. IsFirstStop c.args.lp.now stop} c.pivot.result
    (λ stop w. true_way_stop true c.args.lp.now c.args.tableau.now c.requires.tableau c.in-Some.row c.in-Some-find_other_entry.column c.args.tableau.now.basis stop
    (s_may_leave c.args.lp.now c.args.tableau.now c.requires.tableau c.requires.point c.requires.zero c.in-Some.row row.0 row.1 c.in-Some-find_other_entry.column c.in-Some-find_other_entry.ensures)
    (own_way c.args.tableau.now c.in-Some.row c.in-Some-find_other_entry.column stop w))
    c.pivot.ensures.refused
