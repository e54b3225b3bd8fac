use Rattle.std.proofs.Common.{not, sym, ap, ◌∙◌}
use Rattle.std.proofs.lemmas.Bool.{false≢true}
use Rattle.read_tokens.specs.steps.Code.{symbolic}
use Rattle.read_grammar.specs.steps.Promises.{begins_part}
use Rattle.read_grammar.specs.laws.Places.{begins-kind, begins-symbol}
use Rattle.read_grammar.specs.laws.Glue.{kind-there, over-next}
use Rattle.read_grammar.proofs.Reader.begins_at.Goals as goal

pub returns-then-is_symbol : goal.returns-then-is_symbol
returns-then-is_symbol c =
    let y = sym c.is_symbol.ensures ∙ c.if-is_symbol.true in
    ap not c.arrow_at.ensures ∙ begins-symbol _ _ _ _
    (over-next _ _ _ _ c.token-kind.ensures (λ e. false≢true (sym (ap symbolic e) ∙ y)))
    (sym (ap symbolic (kind-there _ _ _ _ c.token-kind.ensures)) ∙ y)

pub returns-else-is_symbol : goal.returns-else-is_symbol
returns-else-is_symbol c =
    let k = kind-there _ _ _ _ c.token-kind.ensures in
    c.begins_part.ensures ∙ ap begins_part k
    ∙ begins-kind _ (sym (ap symbolic k) ∙ sym c.is_symbol.ensures ∙ c.if-is_symbol.false)
