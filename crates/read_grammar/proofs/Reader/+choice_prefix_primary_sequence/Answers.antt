use Rattle.std.proofs.Common.{◌≡◌, sym, ap, ◌∙◌, ◌⊎◌, ⊎_elim, subst, true, arith}
use Rattle.std.proofs.lemmas.Bool.{not-true, not-false}
use Rattle.read_tokens.specs.declared.Kind.{Kind}
use Rattle.read_tokens.specs.declared.Kind.TheVariants.{End, Name, Lake, Any, Literal, Class, Slash, Opens}
use Rattle.read_tokens.specs.steps.Code.{kind_number, symbolic}
use Rattle.read_tokens.specs.laws.Tags.{kind-yes, kind-no}
use Rattle.read_entries.specs.steps.Entries.{prefix_op}
use Rattle.read_grammar.specs.steps.Promises.{Matches}
use Rattle.read_grammar.specs.laws.Places.{leafy}
use Rattle.read_grammar.specs.laws.Glue.{more-c, end-c, more-s, end-s, with-pre, without-pre, grouped, kind-there, over-next, long-next, start-in, room}
use Rattle.read_grammar.specs.laws.Glue.{prim-end, prim-bad, prim-name, prim-terminal, prefix-some, slash-some}
use Rattle.read_grammar.proofs.Reader.+choice_prefix_primary_sequence.Goals as goal

pub choice-returns-then-ne : goal.choice-returns-then-ne
choice-returns-then-ne t c = end-c c.sequence-i.ensures c.loop-at.invariant.3 c.loop-at.invariant.0 c.loop-at.invariant.1
    (λ e. kind-no _ Slash (not-true _ (sym c.ne.ensures ∙ c.if-ne.true)) (kind-there _ _ _ _ c.token-kind.ensures ∙ e))

pub choice-sequence-i-requires-in-loop-at : goal.choice-sequence-i-requires-in-loop-at
choice-sequence-i-requires-in-loop-at t c =
    let f = slash-some _ (kind-yes _ Slash (not-false _ (sym c.ne.ensures ∙ c.if-ne.false))) in
    let o = over-next _ _ _ _ c.token-kind.ensures f in (
      omega (arith, c.decreases, c.sequence-i.ensures.low, c.loop-at.invariant.0, c.loop-at.invariant.1, long-next _ _ _ _ c.token-kind.ensures f, o.high),
      o.high,
    )

pub choice-loop-at-smaller : goal.choice-loop-at-smaller
choice-loop-at-smaller t c = omega (
  arith,
  c.sequence-i-in-loop-at.ensures.low,
  c.sequence-i-in-loop-at.ensures.high,
  long-next _ _ _ _ c.token-kind.ensures (slash-some _ (kind-yes _ Slash (not-false _ (sym c.ne.ensures ∙ c.if-ne.false)))),
)

pub choice-loop-at-preserved : goal.choice-loop-at-preserved
choice-loop-at-preserved t c =
    let y = kind-yes _ Slash (not-false _ (sym c.ne.ensures ∙ c.if-ne.false)) in
    let f = slash-some _ y in (
      omega (arith, c.loop-at.invariant.0, c.sequence-i-in-loop-at.ensures.low, long-next _ _ _ _ c.token-kind.ensures f),
      c.sequence-i-in-loop-at.ensures.high,
      c.add_pair.auto.t ∙ c.sequence-i-in-loop-at.auto.t ∙ c.loop-at.invariant.2,
      more-c c.loop-at.invariant.3 (sym (kind-there _ _ _ _ c.token-kind.ensures) ∙ y) (over-next _ _ _ _ c.token-kind.ensures f)
          c.expressions-a.ensures.0 c.sequence-i-in-loop-at.ensures c.add_pair.ensures,
    )

pub prefix-primary-i-requires : goal.prefix-primary-i-requires
prefix-primary-i-requires t c =
    let f = prefix-some _ _ (sym c.in-Some.ensures.0) in
    let o = over-next _ _ _ _ c.token-kind.ensures f in
    (omega (arith, c.decreases, long-next _ _ _ _ c.token-kind.ensures f, o.high), o.high)

pub prefix-returns-in-Some : goal.prefix-returns-in-Some
prefix-returns-in-Some t c = with-pre (sym (c.in-Some.ensures.0 ∙ ap prefix_op (kind-there _ _ _ _ c.token-kind.ensures)))
    (over-next _ _ _ _ c.token-kind.ensures (prefix-some _ _ (sym c.in-Some.ensures.0))) c.primary-i.ensures c.suffix-j.ensures c.add_over.ensures

pub prefix-returns-in-None : goal.prefix-returns-in-None
prefix-returns-in-None t c = without-pre (sym (c.in-None.ensures.0 ∙ ap prefix_op (kind-there _ _ _ _ c.token-kind.ensures)))
    c.primary-i-in-None.ensures c.suffix.ensures

-- what the arms of a match on two kinds say
a-symbol : (k : Kind) → (k ≡ Name) ⊎ (k ≡ Lake) → symbolic k ≡ true
a-symbol k e = ⊎_elim (λ f. ap symbolic f) (λ f. ap symbolic f) e

a-leaf : (k : Kind) → (k ≡ Literal) ⊎ (k ≡ Class) → leafy k ≡ true
a-leaf k e = ⊎_elim (λ f. ap leafy f) (λ f. ap leafy f) e

some-symbol : (k : Kind) → (k ≡ Name) ⊎ (k ≡ Lake) → k ≡ End → ⊥
some-symbol k e z = ⊎_elim (λ (f : k ≡ Name). omega (arith, ap kind_number (sym f ∙ z))) (λ (f : k ≡ Lake). omega (arith, ap kind_number (sym f ∙ z))) e

some-leaf : (k : Kind) → (k ≡ Literal) ⊎ (k ≡ Class) → k ≡ End → ⊥
some-leaf k e z = ⊎_elim (λ (f : k ≡ Literal). omega (arith, ap kind_number (sym f ∙ z))) (λ (f : k ≡ Class). omega (arith, ap kind_number (sym f ∙ z))) e

some-any : (k : Kind) → k ≡ Any → k ≡ End → ⊥
some-any k e z = omega (arith, ap kind_number (sym e ∙ z))

some-opens : (k : Kind) → k ≡ Opens → k ≡ End → ⊥
some-opens k e z = omega (arith, ap kind_number (sym e ∙ z))

pub primary-returns-in-End : goal.primary-returns-in-End
primary-returns-in-End t c = prim-end _ _ _ _ c.token-kind.ensures c.in-End.is c.requires

pub primary-occurrence-requires : goal.primary-occurrence-requires
primary-occurrence-requires t c =
    omega (arith, room _ _ _ _ c.token-kind.ensures (some-symbol _ c.in-Name.is) (a-symbol _ c.in-Name.is), c.args.self.now.short)

pub primary-returns-in-Name : goal.primary-returns-in-Name
primary-returns-in-Name t c = prim-name _ _ _ _ c.token-kind.ensures (some-symbol _ c.in-Name.is) (a-symbol _ c.in-Name.is) c.occurrence.ensures

pub primary-any_byte-requires : goal.primary-any_byte-requires
primary-any_byte-requires t c = start-in _ _ _ _ c.token-kind.ensures (some-any _ c.in-Any.is)

pub primary-returns-in-Any : goal.primary-returns-in-Any
primary-returns-in-Any t c =
    let r = c.args.self.now in
    let k = c.token-kind.result in
    prim-terminal _ _ _ _ c.token-kind.ensures (some-any _ c.in-Any.is) (ap leafy c.in-Any.is)
    (subst (λ (x : Kind). Matches r.mode r.text.now x k.start k.size c.args.t.now c.any_byte.new.t) (sym c.in-Any.is) c.any_byte.ensures)

pub primary-terminal-requires : goal.primary-terminal-requires
primary-terminal-requires t c = start-in _ _ _ _ c.token-kind.ensures (some-leaf _ c.in-Literal.is)

pub primary-returns-in-Literal : goal.primary-returns-in-Literal
primary-returns-in-Literal t c = prim-terminal _ _ _ _ c.token-kind.ensures (some-leaf _ c.in-Literal.is) (a-leaf _ c.in-Literal.is) c.terminal.ensures

pub primary-choice-i-requires : goal.primary-choice-i-requires
primary-choice-i-requires t c =
    let f = some-opens _ c.in-Opens.is in
    let o = over-next _ _ _ _ c.token-kind.ensures f in
    (omega (arith, c.decreases, long-next _ _ _ _ c.token-kind.ensures f, o.high), o.high)

pub primary-returns-in-Opens : goal.primary-returns-in-Opens
primary-returns-in-Opens t c = grouped (sym (kind-there _ _ _ _ c.token-kind.ensures) ∙ c.in-Opens.is)
    (over-next _ _ _ _ c.token-kind.ensures (some-opens _ c.in-Opens.is)) c.choice-i.ensures c.over.ensures

pub primary-returns-in_default : goal.primary-returns-in_default
primary-returns-in_default t c = prim-bad _ _ _ _ c.token-kind.ensures
    (c.in_default.not-End, c.in_default.not-Name, c.in_default.not-Lake, c.in_default.not-Any, c.in_default.not-Literal, c.in_default.not-Class, c.in_default.not-Opens)

pub sequence-loop-t-preserved : goal.sequence-loop-t-preserved
sequence-loop-t-preserved t c = (
  omega (arith, c.loop-t.invariant.0, c.prefix-i-in-loop-t.ensures.low),
  c.prefix-i-in-loop-t.ensures.high,
  c.add_pair.auto.t ∙ c.prefix-i-in-loop-t.auto.t ∙ c.loop-t.invariant.2,
  more-s c.loop-t.invariant.3 (sym c.begins_at.ensures ∙ c.loop-t-test.true) c.expressions-a.ensures.0 c.prefix-i-in-loop-t.ensures c.add_pair.ensures,
)

pub sequence-returns : goal.sequence-returns
sequence-returns t c = end-s c.prefix-i.ensures c.loop-t.invariant.3 c.loop-t.invariant.0 c.loop-t.invariant.1 (sym c.begins_at.ensures ∙ c.loop-t-test.false)
