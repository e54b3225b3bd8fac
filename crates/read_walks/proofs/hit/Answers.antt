use Prim.Native.Nat.{ℕ}
use mathlib.Core.Path.{sym, ap, ◌∙◌}
use native.Mathlib.Omega.{arith}
use borrow.Author.Tests.{not-true, not-false}
use Rattle.read_tokens.specs.laws.Tags.{kind-yes, kind-no}
use Rattle.grammar.specs.Same.{same_bytes}
use Rattle.read_walks.specs.steps.Names.{bytes_at}
use Rattle.read_walks.specs.laws.Hits.{other-kind, other-size, not_left, by_bytes, start-inside, name-inside}
use Rattle.read_walks.proofs.hit.Goals.{then-ne-via-then-ne, then-ne-via-else-ne+then-t-size}
use Rattle.read_walks.proofs.hit.Goals as goal

pub returns-then-ne : goal.returns-then-ne
returns-then-ne c =
    elim c.then-ne.branch [
      | then-ne-via-then-ne w ↦ other-kind c.args.mode c.args.text.now c.args.at c.args.t c.requires.0 c.args.symbol.kind c.args.symbol.symbol c.args.symbol.from c.args.symbol.size
          c.requires.1 (kind-no _ _ (not-true _ (sym c.ne.ensures ∙ w.if-ne.true)))
      | then-ne-via-else-ne+then-t-size w ↦ other-size c.args.mode c.args.text.now c.args.at c.args.t c.requires.0 c.args.symbol.kind c.args.symbol.symbol c.args.symbol.from
          c.args.symbol.size c.requires.1 w.if-t-size.true
    ]

pub name_start-requires : goal.name_start-requires
name_start-requires c = omega (
  arith,
  start-inside c.args.mode c.args.text.now c.args.at c.args.t c.requires.0 c.args.symbol.kind c.args.symbol.symbol c.args.symbol.from c.args.symbol.size
      c.requires.1 (kind-yes _ _ (not-false _ (sym c.ne.ensures ∙ c.if-ne.false))),
  c.requires.2,
)

pub same_bytes-requires : goal.same_bytes-requires
same_bytes-requires c = (
  c.requires.1,
  omega (
    arith,
    name-inside c.args.mode c.args.text.now c.args.at c.args.t c.requires.0 c.args.symbol.kind c.args.symbol.symbol c.args.symbol.from c.args.symbol.size c.requires.1
        (kind-yes _ _ (not-false _ (sym c.ne.ensures ∙ c.if-ne.false))) c.if-t-size.false,
    c.name_start.ensures,
  ),
)

pub returns-then-is_left : goal.returns-then-is_left
returns-then-is_left c =
    by_bytes c.args.mode c.args.text.now c.args.at c.args.t c.requires.0 c.args.symbol.kind c.args.symbol.symbol c.args.symbol.from c.args.symbol.size c.requires.1 (kind-yes _ _ (not-false _
    (sym c.ne.ensures ∙ c.if-ne.false))) c.if-t-size.false (sym c.is_left.ensures ∙ c.if-is_left.true) c.same_bytes.result
    (c.same_bytes.ensures
    ∙ ap (λ (i : ℕ). same_bytes (bytes_at c.args.text.now c.args.symbol.from c.args.symbol.size) (bytes_at c.args.text.now i c.args.symbol.size)) c.name_start.ensures)

pub returns-else-is_left : goal.returns-else-is_left
returns-else-is_left c = λ u q. c.if-is_left.false
    ∙ not_left c.args.mode c.args.text.now c.args.at c.args.t c.requires.0 c.args.symbol.kind c.args.symbol.symbol c.args.symbol.from c.args.symbol.size c.requires.1 (sym c.is_left.ensures
    ∙ c.if-is_left.false) u q
