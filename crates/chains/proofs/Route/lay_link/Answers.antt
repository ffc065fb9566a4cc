-- `chains::Route::lay_link` meets its contract: the step is held, and the mask is that of the set.
-- Assumes nothing.
use native.Mathlib.Omega.{arith}
use mathlib.Core.Path.{◌∙◌}
use Prim.Native.Nat.{◌+◌, ◌*◌}
use lib.Seq.{get_or-set_same}
use Rattle.rows.proofs.Words.{kept_set}
use Rattle.chains.proofs.Route.lay_link.Goals as goal

pub returns-clause-laid : goal.returns-clause-laid
returns-clause-laid c =
    let a = c.args in
    let f = c.in-Some.ensures.found in
    let k = c.in-Some.k in
    let b = (24 + k) * c.size.result in
    λ e. record {
      leg = (k, f.0, f.1, get_or-set_same a.self.now.bases (a.j + 1) b 0 (omega (arith, c.requires.3, a.self.now.sized.0)) ∙ (rw c.size.ensures.0));
      joint = λ z hz. c.copy.ensures.bit z hz ∙ c.records_of.ensures.bit z hz;
      bases_kept = kept_set a.self.now.bases (a.j + 1) b;
      masks_kept = c.copy.ensures.kept;
    }
