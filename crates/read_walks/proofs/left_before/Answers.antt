use Prim.Native.Nat.{ℕ}
use mathlib.Core.Path.{◌≡◌, refl, sym, ap, ◌∙◌, subst}
use mathlib.Core.Bool.{Bool, true, false, ◌||◌}
use native.Mathlib.Omega.{arith}
use Rattle.read_tokens.specs.declared.Kind.TheVariants.{End}
use Rattle.read_tokens.specs.declared.Token.{Token}
use Rattle.read_tokens.specs.Tokens.{token_at, lexemes}
use Rattle.read_tokens.specs.laws.Forward.{lexemes_at}
use Rattle.read_tokens.specs.laws.Here.{is-end, is-token, here}
use Rattle.read_tokens.specs.laws.Tags.{kind-yes, kind-no}
use Rattle.grammar.specs.Same.{same_symbol, is_in}
use Rattle.read_syntax.specs.Reading.{before, lefts_in}
use Rattle.read_walks.specs.steps.Names.{bytes_at, symbol_by, hit_by}
use Rattle.read_walks.specs.laws.Hits.{Looking, look-start, look-end, look_none, look_hit, look-on, all_none, all-next, all-past}
use Rattle.read_walks.proofs.left_before.Goals as goal

pub loop-i-init : goal.loop-i-init
unfolding lexemes
loop-i-init c = record {
  within = omega arith;
  passed = look-start c.args.mode c.args.text.now c.args.limit (symbol_by c.args.symbol.kind
      (bytes_at c.args.text.now c.args.symbol.from c.args.symbol.size));
  whole = refl;
}

pub returns-then-eq-clause-passed : goal.returns-then-eq-clause-passed
returns-then-eq-clause-passed c = look_none c.args.mode c.args.text.now c.args.limit (symbol_by c.args.symbol.kind
    (bytes_at c.args.text.now c.args.symbol.from c.args.symbol.size)) c.loop-i.i c.loop-i.invariant.passed c.loop-i-test.true (is-end (token_at c.args.mode c.args.text.now c.loop-i.i).is
    (sym (ap (λ (t : Token). t.kind) c.token_at-t.ensures) ∙ kind-yes _ End (sym c.eq.ensures ∙ c.if-eq.true)))

pub returns-then-eq-clause-whole : goal.returns-then-eq-clause-whole
returns-then-eq-clause-whole c = λ _. all_none c.args.mode c.args.text.now (symbol_by c.args.symbol.kind (bytes_at c.args.text.now c.args.symbol.from c.args.symbol.size)) c.loop-i.i (is-end
    (token_at c.args.mode c.args.text.now c.loop-i.i).is (sym (ap (λ (t : Token). t.kind) c.token_at-t.ensures) ∙ kind-yes _ End (sym c.eq.ensures ∙ c.if-eq.true))) ∙ c.loop-i.invariant.whole

pub hit-requires : goal.hit-requires
hit-requires c = (c.token_at-t.ensures, c.requires.0, c.requires.1)

pub returns-then-hit-clause-passed : goal.returns-then-hit-clause-passed
returns-then-hit-clause-passed c =
    let x = is-token (token_at c.args.mode c.args.text.now c.loop-i.i).is (λ z. kind-no _ End (sym c.eq.ensures ∙ c.if-eq.false) (ap (λ (t : Token). t.kind) c.token_at-t.ensures ∙ z)) in
    let b : hit_by (symbol_by c.args.symbol.kind (bytes_at c.args.text.now c.args.symbol.from c.args.symbol.size)) x.0 (before (lexemes_at c.args.mode c.args.text.now
    (token_at c.args.mode c.args.text.now c.loop-i.i).next)) ≡ true = sym (c.hit.ensures x.0 x.1) ∙ c.if-hit.true in
    look_hit c.args.mode c.args.text.now c.args.limit (symbol_by c.args.symbol.kind
    (bytes_at c.args.text.now c.args.symbol.from c.args.symbol.size)) c.loop-i.i c.loop-i.invariant.passed c.loop-i-test.true x.0 x.1 b

pub returns-then-hit-clause-whole : goal.returns-then-hit-clause-whole
returns-then-hit-clause-whole c =
    let x = is-token (token_at c.args.mode c.args.text.now c.loop-i.i).is (λ z. kind-no _ End (sym c.eq.ensures ∙ c.if-eq.false) (ap (λ (t : Token). t.kind) c.token_at-t.ensures ∙ z)) in
    let b : hit_by (symbol_by c.args.symbol.kind (bytes_at c.args.text.now c.args.symbol.from c.args.symbol.size)) x.0 (before (lexemes_at c.args.mode c.args.text.now
    (token_at c.args.mode c.args.text.now c.loop-i.i).next)) ≡ true = sym (c.hit.ensures x.0 x.1) ∙ c.if-hit.true in
    λ _. sym (all-next c.args.mode c.args.text.now (symbol_by c.args.symbol.kind (bytes_at c.args.text.now c.args.symbol.from c.args.symbol.size)) c.loop-i.i x.0 x.1
    ∙ ap (λ (y : Bool). y || is_in same_symbol (symbol_by c.args.symbol.kind (bytes_at c.args.text.now c.args.symbol.from c.args.symbol.size)) (lefts_in
    (lexemes_at c.args.mode c.args.text.now (token_at c.args.mode c.args.text.now c.loop-i.i).next))) b)
    ∙ c.loop-i.invariant.whole

pub loop-i-smaller : goal.loop-i-smaller
loop-i-smaller c = omega (
  arith,
  (here c.args.mode c.args.text.now c.loop-i.i c.token_at-t.result c.token_at-t.ensures (kind-no _ End (sym c.eq.ensures ∙ c.if-eq.false))).forth,
  (here c.args.mode c.args.text.now c.loop-i.i c.token_at-t.result c.token_at-t.ensures (kind-no _ End (sym c.eq.ensures ∙ c.if-eq.false))).within,
)

pub loop-i-preserved : goal.loop-i-preserved
loop-i-preserved c =
    let x = is-token (token_at c.args.mode c.args.text.now c.loop-i.i).is (λ z. kind-no _ End (sym c.eq.ensures ∙ c.if-eq.false) (ap (λ (t : Token). t.kind) c.token_at-t.ensures ∙ z)) in
    let b : hit_by (symbol_by c.args.symbol.kind (bytes_at c.args.text.now c.args.symbol.from c.args.symbol.size)) x.0 (before (lexemes_at c.args.mode c.args.text.now
    (token_at c.args.mode c.args.text.now c.loop-i.i).next)) ≡ false = sym (c.hit.ensures x.0 x.1) ∙ c.if-hit.false in
    record {
      within = (here c.args.mode c.args.text.now c.loop-i.i c.token_at-t.result c.token_at-t.ensures (kind-no _ End (sym c.eq.ensures ∙ c.if-eq.false))).within;
      passed = subst (Looking c.args.mode c.args.text.now c.args.limit (symbol_by c.args.symbol.kind (bytes_at c.args.text.now c.args.symbol.from c.args.symbol.size))) (sym (ap (λ
          (t : Token). t.next) c.token_at-t.ensures))
          (look-on c.args.mode c.args.text.now c.args.limit (symbol_by c.args.symbol.kind
          (bytes_at c.args.text.now c.args.symbol.from c.args.symbol.size)) c.loop-i.i c.loop-i.invariant.passed c.loop-i-test.true x.0 x.1 b);
      whole = ap (λ (j : ℕ). is_in same_symbol (symbol_by c.args.symbol.kind (bytes_at c.args.text.now c.args.symbol.from c.args.symbol.size)) (lefts_in
          (lexemes_at c.args.mode c.args.text.now j))) (ap (λ (t : Token). t.next) c.token_at-t.ensures)
          ∙ sym (all-next c.args.mode c.args.text.now (symbol_by c.args.symbol.kind (bytes_at c.args.text.now c.args.symbol.from c.args.symbol.size)) c.loop-i.i x.0 x.1
          ∙ ap (λ (y : Bool). y || is_in same_symbol (symbol_by c.args.symbol.kind (bytes_at c.args.text.now c.args.symbol.from c.args.symbol.size)) (lefts_in
          (lexemes_at c.args.mode c.args.text.now (token_at c.args.mode c.args.text.now c.loop-i.i).next))) b) ∙ c.loop-i.invariant.whole;
    }

pub returns-clause-passed : goal.returns-clause-passed
returns-clause-passed c = look-end c.args.mode c.args.text.now c.args.limit (symbol_by c.args.symbol.kind
    (bytes_at c.args.text.now c.args.symbol.from c.args.symbol.size)) c.loop-i.i c.loop-i.invariant.passed c.loop-i-test.false

pub returns-clause-whole : goal.returns-clause-whole
returns-clause-whole c = λ h. all-past c.args.mode c.args.text.now (symbol_by c.args.symbol.kind (bytes_at c.args.text.now c.args.symbol.from c.args.symbol.size)) c.loop-i.i (omega
    (arith, h, c.loop-i-test.false)) ∙ c.loop-i.invariant.whole
