use Rattle.std.proofs.Common.{refl}
use Rattle.std.proofs.lemmas.Bool.Decides.{Decides-eqb, not_from_Decides}
use Rattle.std.proofs.lemmas.Slice.Eq.{slice_eq-Decides}
use Rattle.base_rounds.proofs.equal.Goals as goal

pub returns : goal.returns
returns c =
    let d = slice_eq-Decides (λ s u. slice_eq-Decides Decides-eqb s u _ refl) c.args.a.now c.args.b.now c.eq.result c.eq.ensures in
    record { on = d.0; off = not_from_Decides c.eq.result d }
