use native.Mathlib.Omega.{arith}
use mathlib.Core.Path.{sym, ap, ◌∙◌}
use mathlib.Core.Bool.{Bool, not, cond}
use mathlib.Core.Logic.{⊎_elim}
use Rattle.std.specs.Prelude.{ℕ, ◌≡◌}
use Rattle.std.proofs.Common.{ne_eqb}
use Rattle.match_lake.specs.laws.Asks.{symbol-not, symbol-lake, symbol-asked}
use Rattle.match_lake.proofs.symbol_fails.Goals as goal
use Rattle.match_lake.proofs.symbol_fails.Goals.{then-not-member, else-not-member}

pub returns-then-lake : goal.returns-then-lake
returns-then-lake c =
    let a = c.args in
    elim c.if-not-member.branch [
      | then-not-member w ↦ w.t-11-is ∙ ap not w.if-not-member.true ∙ symbol-not a.t.now a.s.now a.cells.now a.n a.alt a.i a.p (sym c.member.ensures ∙ w.if-not-member.true)
      | else-not-member w ↦
          ⊎_elim (λ h. let z : ◌≡◌ {A = ℕ} 1 0 = ap (λ (x : Bool). cond {A = ℕ} x 1 0) (sym w.if-not-member.false ∙ h) in absurd (omega (arith, z)))
          (λ h. w.t-11-is ∙ ap not (ne_eqb c.kind-lake.result 0 h.1)
          ∙ symbol-lake a.t.now a.s.now a.cells.now a.n a.alt a.i a.p (sym c.member.ensures ∙ w.if-not-member.false) _ c.kind-lake.ensures.0 h.1) c.if-lake.either
    ]

pub returns-else-lake : goal.returns-else-lake
returns-else-lake c =
    symbol-asked c.args.t.now c.args.s.now c.args.cells.now c.args.n c.args.alt c.args.i c.args.p (sym c.member.ensures ∙ c.if-lake.false.0)
    _ c.kind-lake.ensures.0 _ c.if-lake.false.1 c.cell_at.ensures
