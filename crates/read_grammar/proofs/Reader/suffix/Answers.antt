use Rattle.std.proofs.Common.{sym, ap, ◌∙◌}
use Rattle.read_entries.specs.steps.Entries.{suffix_op}
use Rattle.read_grammar.specs.laws.Glue.{kind-there, over-next, suffix-some, suf-no, suf-yes}
use Rattle.read_grammar.proofs.Reader.suffix.Goals as goal

pub returns-in-Some : goal.returns-in-Some
returns-in-Some c = suf-yes (sym (c.in-Some.ensures.0 ∙ ap suffix_op (kind-there _ _ _ _ c.token-kind.ensures)))
    (over-next _ _ _ _ c.token-kind.ensures (suffix-some _ _ (sym c.in-Some.ensures.0))) c.add_over.ensures

pub returns-in-None : goal.returns-in-None
returns-in-None c = suf-no (sym (c.in-None.ensures.0 ∙ ap suffix_op (kind-there _ _ _ _ c.token-kind.ensures))) c.requires
