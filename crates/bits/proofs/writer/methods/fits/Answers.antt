use Rattle.bits.proofs.Writes.{fits_test}
use Rattle.bits.proofs.writer.methods.fits.Goals as goal

pub returns : goal.returns
returns c = fits_test c.args.value c.from.result c.args.width c.from.ensures
