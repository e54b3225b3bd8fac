use mathlib.Core.Path.{refl, sym, ap, ◌∙◌}
use native.Mathlib.Omega.{arith}
use lib.ListN.{length}
use Rattle.read_tokens.specs.declared.Kind.TheVariants.{End}
use Rattle.read_tokens.specs.Tokens.{lexemes}
use Rattle.read_tokens.specs.laws.Forward.{lexemes_at}
use Rattle.read_tokens.specs.laws.Here.{here}
use Rattle.read_tokens.specs.laws.Tags.{kind-yes, kind-no}
use Rattle.read_syntax.specs.steps.Numbers.{state_of, next_of, deep, kind_class, moved}
use Rattle.read_syntax.specs.steps.Found.{found}
use Rattle.read_syntax.proofs.laws.Automaton.{walk_is, moved-le}
use Rattle.read_syntax.proofs.laws.Turns.{end-well, end-badly, class-below, dead, over-wide, walks-on, stays-flat}
use Rattle.read_syntax.proofs.syntax.offending.Goals as goal

pub loop-mode-init : goal.loop-mode-init
unfolding state_of lexemes
loop-mode-init c = (
  omega arith,
  omega arith,
  omega arith,
  λ h. refl,
  sym (walk_is c.args.mode (length c.args.text.now) (lexemes_at c.args.mode c.args.text.now 0)),
)

pub returns-then-finished : goal.returns-then-finished
returns-then-finished c = ap found (end-well c.args.mode c.args.text.now c.loop-mode.at c.token_by-t.result c.token_by-t.ensures c.loop-mode.c c.loop-mode.d (kind-yes _ End (sym c.eq.ensures
    ∙ c.if-eq.true)) (sym c.finished.ensures ∙ c.if-finished.true) ∙ c.loop-mode.invariant.4)

pub returns-then-eq : goal.returns-then-eq
returns-then-eq c = c.refuse.ensures ∙ ap found (end-badly c.args.mode c.args.text.now c.loop-mode.at c.token_by-t.result c.token_by-t.ensures c.loop-mode.c c.loop-mode.d (kind-yes _ End
    (sym c.eq.ensures ∙ c.if-eq.true)) (sym c.finished.ensures ∙ c.if-finished.false) ∙ c.loop-mode.invariant.4)

pub next-requires : goal.next-requires
next-requires c = (
  c.loop-mode.invariant.0,
  class-below c.args.mode c.args.text.now c.loop-mode.at c.token_by-t.result c.token_by-t.ensures c.loop-mode.c c.loop-mode.d c.loop-mode.invariant.3 (kind-no _ End (sym c.eq.ensures
      ∙ c.if-eq.false)) c.class.result (next_of c.loop-mode.c (deep c.loop-mode.d) c.class.result) c.class.ensures refl,
  c.laid_moves-moves.ensures,
)

pub returns-in_default : goal.returns-in_default
returns-in_default c =
    c.refuse-in_default.ensures
    ∙ ap found (dead c.args.mode c.args.text.now c.loop-mode.at c.token_by-t.result c.token_by-t.ensures c.loop-mode.c c.loop-mode.d c.loop-mode.invariant.3 (kind-no _ End (sym c.eq.ensures
    ∙ c.if-eq.false)) c.class.result _ c.class.ensures refl c.in_default.ensures ∙ c.loop-mode.invariant.4)

pub returns-then-over : goal.returns-then-over
returns-then-over c =
    c.refuse-then-over.ensures
    ∙ ap found (over-wide c.args.mode c.args.text.now c.loop-mode.at c.token_by-t.result c.token_by-t.ensures c.loop-mode.c c.loop-mode.d c.loop-mode.invariant.3 (kind-no _ End
    (sym c.eq.ensures ∙ c.if-eq.false)) c.class.result _ c.class.ensures c.in-Some.ensures.0 (λ z. omega (arith, c.in-Some.ensures.1, z))
    (sym c.over.ensures ∙ c.if-over.true) ∙ c.loop-mode.invariant.4)

pub open_after-d-requires : goal.open_after-d-requires
open_after-d-requires c = omega (arith, c.loop-mode.invariant.1, c.loop-mode.invariant.2, c.requires)

pub loop-mode-smaller : goal.loop-mode-smaller
loop-mode-smaller c = omega (
  arith,
  (here c.args.mode c.args.text.now c.loop-mode.at c.token_by-t.result c.token_by-t.ensures (kind-no _ End (sym c.eq.ensures ∙ c.if-eq.false))).forth,
  (here c.args.mode c.args.text.now c.loop-mode.at c.token_by-t.result c.token_by-t.ensures (kind-no _ End (sym c.eq.ensures ∙ c.if-eq.false))).within,
)

pub loop-mode-preserved : goal.loop-mode-preserved
loop-mode-preserved c = (
  c.in-Some.ensures.1,
  omega (
    arith,
    moved-le c.loop-mode.d (kind_class c.token_by-t.result.kind),
    c.open_after-d.ensures,
    c.loop-mode.invariant.1,
    (here c.args.mode c.args.text.now c.loop-mode.at c.token_by-t.result c.token_by-t.ensures (kind-no _ End (sym c.eq.ensures ∙ c.if-eq.false))).forth,
  ),
  (here c.args.mode c.args.text.now c.loop-mode.at c.token_by-t.result c.token_by-t.ensures (kind-no _ End (sym c.eq.ensures ∙ c.if-eq.false))).within,
  λ l. stays-flat c.args.mode c.args.text.now c.loop-mode.at c.token_by-t.result c.token_by-t.ensures c.loop-mode.c c.loop-mode.d c.loop-mode.invariant.3 (kind-no _ End (sym c.eq.ensures
      ∙ c.if-eq.false)) c.class.result _ c.class.ensures c.in-Some.ensures.0 _ (c.open_after-d.ensures ∙ ap (moved c.loop-mode.d) (sym c.class.ensures)) l,
  walks-on c.args.mode c.args.text.now c.loop-mode.at c.token_by-t.result c.token_by-t.ensures c.loop-mode.c c.loop-mode.d c.loop-mode.invariant.3 (kind-no _ End (sym c.eq.ensures
      ∙ c.if-eq.false)) c.class.result _ c.class.ensures c.in-Some.ensures.0 _ (λ z. omega (arith, c.in-Some.ensures.1, z))
      (sym c.over.ensures ∙ c.if-over.false) (c.open_after-d.ensures ∙ ap (moved c.loop-mode.d) (sym c.class.ensures)) ∙ c.loop-mode.invariant.4,
)
