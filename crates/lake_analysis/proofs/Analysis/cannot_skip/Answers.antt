use Rattle.std.proofs.Common.{arith, ◌≡◌, ap, ◌∙◌, ℕ, ◌+◌, ◌^◌, cond}
use Rattle.lake_analysis.specs.steps.Lent.{skip_in, skips_in}
use Rattle.lake_analysis.specs.laws.Skip.{skips-next, skips-none, skips-lt, skip-law}
use Rattle.lake_analysis.proofs.Analysis.cannot_skip.Goals as goal

pub returns-then-r-gt64 : goal.returns-then-r-gt64
returns-then-r-gt64 c = λ g sets eps succ k h p a. let z : ⊥ = omega (arith, h.few-symbols, c.symbols-r.ensures.0) in absurd z

pub loop-n-init : goal.loop-n-init
loop-n-init c = skips-none c.args.t.now c.args.self.now.marks c.args.alts.now c.symbols-r.result

pub note-w-requires : goal.note-w-requires
note-w-requires c = (
  omega arith,
  omega arith,
  rw c.loop-n.invariant (skips-lt c.args.t.now c.args.self.now.marks c.args.alts.now c.symbols-r.result c.loop-n.n),
)

pub loop-n-preserved : goal.loop-n-preserved
loop-n-preserved c =
    c.note-w.ensures
    ∙ ap (λ (w : ℕ). w + cond (skip_in c.args.t.now c.args.self.now.marks c.args.alts.now c.symbols-r.result c.loop-n.n) (2 ^ c.loop-n.n) 0) c.loop-n.invariant
    ∙ skips-next c.args.t.now c.args.self.now.marks c.args.alts.now c.symbols-r.result c.loop-n.n

pub returns : goal.returns
returns c = λ g sets eps succ k h p a. let q : c.loop-n.n ≡ c.symbols-r.result = omega arith in
    skip-law c.args.t.now g h p c.args.self.now.marks sets eps succ c.args.alts.now k a c.symbols-r.result c.loop-n.w c.symbols-r.ensures.0
    (c.loop-n.invariant ∙ ap (skips_in c.args.t.now c.args.self.now.marks c.args.alts.now c.symbols-r.result) q)
