-- `slope_rows::padded_rows::load` meets its contract. Assumes nothing.
use Rattle.std.proofs.Common.{rules}
use native.Mathlib.Omega.{arith}
use Rattle.spec_picture.proofs.Found.{limits}
use Rattle.slope_rows.proofs.Windows.{apart-in}
use Rattle.slope_rows.proofs.padded_rows.load.Goals as goal

pub load-requires : goal.load-requires
load-requires g c =
    let x = c.args.slanted.now in (
      search rules,
      (
        c.requires.0,
        record {
          blank = c.requires.1;
          few = (limits x.inputs.source).few_columns;
          within = omega (arith, x.fits.narrow, x.kept.few);
          once = λ t. omega (arith, apart-in x t, x.kept.few);
        },
      ),
    )
