use Rattle.report.proofs.Sinks.{measured_all, off_fits}
use Rattle.report.proofs.text.Text.fits.Goals as goal

pub returns : goal.returns
returns c =
    let put = c.put.ensures in
    rw c.is_some.ensures (off_fits _ _ _ put.part c.put.new.sink.left (measured_all put.all) (measured_all put.enough.all) put.enough.short)
