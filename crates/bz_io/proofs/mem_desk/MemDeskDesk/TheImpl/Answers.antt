use Rattle.std.proofs.Common.{ap}
use Rattle.bz_io.specs.MemDesk.{MemDeskState, contents_of}
use Rattle.bz_io.proofs.CallNumbers.{fails_later}
use Rattle.bz_io.proofs.Tellings.{saves_text, within_limit}
use Rattle.bz_io.proofs.mem_desk.MemDeskDesk.TheImpl.Goals as goal

pub load-tells : goal.load-tells
load-tells c = record {
  answer = c.ensures.answer;
  within = within_limit _ _ _ c.result c.ensures.answer;
  kept = record {
    same = λ name. ap (λ (desk : MemDeskState). contents_of desk.files name) c.ensures.after;
    later = fails_later c.args.self.now c.new.self.now (ap (λ (desk : MemDeskState). desk.fails) c.ensures.after) (ap (λ (desk : MemDeskState). desk.calls) c.ensures.after);
  };
  count = c.ensures.count;
}

pub save-tells : goal.save-tells
save-tells c = record {
  answer = record {
    text = saves_text _ _ _ _ _ c.result c.ensures.answer;
    later = fails_later c.args.self.now c.new.self.now (ap (λ (desk : MemDeskState). desk.fails) c.ensures.after) (ap (λ (desk : MemDeskState). desk.calls) c.ensures.after);
  };
  count = c.ensures.count;
}
