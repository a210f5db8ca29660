use Rattle.bz_judge.proofs.LeavesTold.{leaf_fits, leaf_tested, leaf_told}
use Rattle.bz_judge.proofs.PointsTold.{block_fits, block_rows, block_tested, cost_fits, cost_tested, integers_told, integers_tested, point_fits, point_tested, point_told, ray_cost_fits, ray_rows_fit, ray_tested, ray_told, rows_fit, rows_tested, rows_told}
use Rattle.bz_judge.proofs.laws.tests_tell.Goals as goal

pub returns : goal.returns
returns c = record {
  rows = λ master rows. (λ h. (rows_told master rows h, rows_fit master rows h), λ g. rows_tested master rows g.0 g.1);
  block = λ m part master b block. (
    λ h. (block_rows m part master (b, block) h, block_fits m part master (b, block) h),
    λ g. block_tested m part master (b, block) g.0 g.1,
  );
  integers = λ m part box master. (integers_told m part box master, integers_tested m part box master);
  point = λ m part root parts. (
    λ h. (point_told m part root parts h, point_fits m part root parts h),
    λ g. point_tested m part root parts g.0 g.1,
  );
  cost = λ m part master b block. (
    λ h. (h.1.1.0, cost_fits m part master (b, block) h),
    λ g. cost_tested m part master (b, block) g.0 g.1,
  );
  value = λ m part master value. (
    λ h. (h.1.0, h.0, record { sum = h.1.1.0; product = h.1.1.1.0 }),
    λ g. (g.1, (g.0, (g.2.sum, (g.2.product, tt)))),
  );
  ray = λ m ray l. (
    λ h. (ray_told m ray h l, ray_rows_fit m ray h, ray_cost_fits m ray h),
    λ g. ray_tested m ray g.0 g.1 g.2,
  );
  leaf = λ m part box cuts node leaf. (
    λ h. (leaf_told m part cuts box node leaf h, leaf_fits m part cuts box node leaf h),
    λ g. leaf_tested m part cuts box node leaf g.0 g.1,
  );
}
