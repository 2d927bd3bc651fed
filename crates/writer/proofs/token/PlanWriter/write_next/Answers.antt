use Rattle.std.proofs.Common.{refl}
use Rattle.writer.proofs.Laws.{row_kept}
use Rattle.writer.proofs.token.PlanWriter.write_next.Goals as goal

pub returns : goal.returns
returns c = record {
  count = refl;
  next = refl;
  hyperperiod = c.requires.joins;
  written = c.write_row.ensures;
  kept = λ reload ts wrote.
      row_kept c.args.buffer.now c.write_row.new.buffer c.args.self.now _ c.args.task reload ts refl refl c.requires.joins c.requires.keeping c.write_row.ensures wrote;
}
