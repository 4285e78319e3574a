use Rattle.std.proofs.Common.{ap, sym, ◌∙◌, length}
use Rattle.iop_snapshot.proofs.Saving.{if_ok}
use Rattle.iop_saved_threads.proofs.ThreadsInOrder.{all_left}
use Rattle.iop_saved_threads.proofs.table.save_threads.Goals as goal

pub save_list-requires : goal.save_list-requires
save_list-requires g c = record {
  counted = λ xs (s, h, left).
      ap length (sym left ∙ all_left h) ∙ sym (c.len-count.ensures.count s h);
}

pub returns-clause-written : goal.returns-clause-written
returns-clause-written g c s h = c.save_list.ensures.written s.live (s, h, all_left h)

pub returns-clause-fits : goal.returns-clause-fits
returns-clause-fits g c =
    if_ok c.save_list.result (λ fits s h. fits s.live (s, h, all_left h)) c.save_list.ensures.fits
