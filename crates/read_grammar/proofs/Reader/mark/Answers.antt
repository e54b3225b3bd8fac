use Rattle.std.proofs.Common.{sym, ◌∙◌, arith}
use Rattle.read_tokens.specs.declared.Kind.TheVariants.{End}
use Rattle.read_tokens.specs.laws.Tags.{kind-yes, kind-no}
use Rattle.read_grammar.specs.laws.Glue.{room}
use Rattle.read_grammar.specs.laws.Marks.{mark-end, mark-other, mark-full, mark-yes, mark-no}
use Rattle.read_grammar.specs.steps.Promises.{every_of}
use Rattle.read_grammar.proofs.Reader.mark.Goals as goal
use Rattle.read_grammar.proofs.Reader.mark.Goals.{else-is_symbol-via-then-is_symbol+then-symbols-ne-TOO_MANY+else-is_asked}
use Rattle.read_grammar.proofs.Reader.mark.Goals.{else-is_symbol-via-then-is_symbol+else-symbols-ne-TOO_MANY, else-is_symbol-via-else-is_symbol}

pub returns-then-eq : goal.returns-then-eq
returns-then-eq c = mark-end (every_of c.args.asked) _ _ _ _ c.token-kind.ensures _ (kind-yes _ End (sym c.eq.ensures ∙ c.if-eq.true))

pub note_symbol-requires : goal.note_symbol-requires
note_symbol-requires c = omega (
  arith,
  room _ _ _ _ c.token-kind.ensures (kind-no _ End (sym c.eq.ensures ∙ c.if-eq.false)) (sym c.is_symbol.ensures ∙ c.if-is_symbol.true),
  c.args.self.now.short,
)

pub returns-then-is_asked : goal.returns-then-is_asked
returns-then-is_asked c =
    let n = kind-no _ End (sym c.eq.ensures ∙ c.if-eq.false) in
    mark-yes (every_of c.args.asked) _ _ _ _ c.token-kind.ensures n (sym c.is_symbol.ensures ∙ c.if-is_symbol.true) _ _ _
    (sym c.is_asked.ensures ∙ c.if-is_asked.true) c.note_symbol.ensures

pub returns-else-is_symbol : goal.returns-else-is_symbol
returns-else-is_symbol c =
    let n = kind-no _ End (sym c.eq.ensures ∙ c.if-eq.false) in
    elim c.else-is_symbol.branch [
      | else-is_symbol-via-then-is_symbol+then-symbols-ne-TOO_MANY+else-is_asked w ↦
          mark-no (every_of c.args.asked) _ _ _ _ c.token-kind.ensures n
          (sym c.is_symbol.ensures ∙ w.if-is_symbol.true) _ (sym w.is_asked.ensures ∙ w.if-is_asked.false)
      | else-is_symbol-via-then-is_symbol+else-symbols-ne-TOO_MANY w ↦
          mark-full (every_of c.args.asked) _ _ _ _ c.token-kind.ensures n
          (sym c.is_symbol.ensures ∙ w.if-is_symbol.true) _ (sym w.symbols.ensures.0 ∙ w.if-symbols-ne-TOO_MANY.false)
      | else-is_symbol-via-else-is_symbol w ↦
          mark-other (every_of c.args.asked) _ _ _ _ c.token-kind.ensures _ n
          (sym c.is_symbol.ensures ∙ w.if-is_symbol.false)
    ]
