use Rattle.std.proofs.Common.{sym, refl}
use Rattle.writer.specs.Written.{HeadWritten}
use Rattle.writer.proofs.Laws.{begun_kept}
use Rattle.writer.proofs.token.PlanWriter.begin.Goals as goal

pub returns : goal.returns
returns c =
    let may = c.in_ok-head.ensures in
    let written : HeadWritten c.args.buffer.now c.write_head.new.buffer c.args.count c.args.block_reload_time = rw (sym may.counted, sym may.timed) c.write_head.ensures in
    record {
      refused = may.passed;
      begun = record {
        count = refl;
        next = refl;
        hyperperiod = c.of_none.ensures;
        written = written;
        kept = begun_kept c.args.buffer.now _ c.args.block_reload_time _ refl c.of_none.ensures may.space written;
      };
    }
