-- One program by hand, so that the equations are seen to be those that are meant: minimise -2 z over z >= 0 with 3 z <= 6.
use Rattle.std.specs.Prelude.{◌≡◌, pos, negsuc, true, false}
use Rattle.std.proofs.Common.{refl}
use Rattle.bz_algebra.specs.Tableaus.{Program, equations_of, side, factor}

abbrev example : Program
example = record { columns = 1; rows = 1; term = λ i j. pos 3; rhs = λ i. pos 6; cost = λ j. negsuc 1 }

-- columns: z, the slack, the factor column, the right side
places : (side (equations_of false example) ≡ 3) × (factor false example ≡ 2)
places = (refl, refl)

entries : ((equations_of false example).entry 0 0 ≡ pos 3) × ((equations_of false example).entry 1 0 ≡ negsuc 1) × ((equations_of false example).right 0 ≡ pos 6) × ((equations_of false example).right 1 ≡ pos 0)
entries = (refl, refl, refl, refl)

-- relaxed, with s behind z
relaxed_places : (side (equations_of true example) ≡ 4) × (factor true example ≡ 3)
relaxed_places = (refl, refl)

relaxed_entries : ((equations_of true example).entry 0 0 ≡ pos 3) × ((equations_of true example).entry 0 1 ≡ negsuc 0) × ((equations_of true example).entry 1 0 ≡ pos 0) × ((equations_of true example).entry 1 1 ≡ pos 1)
relaxed_entries = (refl, refl, refl, refl)
