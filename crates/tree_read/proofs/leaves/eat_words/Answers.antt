use Rattle.std.proofs.Common.{ℕ, ◌≡◌, ◌+◌, ◌-◌, ◌∷◌, [], ◌++◌, map, ap, sym, ◌∙◌, arith}
use Rattle.grammar_table.specs.Table.{words_from}
use Rattle.write_leaves.specs.steps.Printed.{low}
use Rattle.write_leaves.specs.laws.Leaves.{name-more, name-end, words-start}
use Rattle.tree_json.specs.Reading.{ate}
use Rattle.tree_read.specs.laws.Eaten.{unreached, cut-gone, cut-on, cut-end}
use Rattle.tree_read.proofs.leaves.eat_words.Goals.{After-word-w}
use Rattle.tree_read.proofs.leaves.eat_words.Goals as goal

-- the word that was read stands first in what is left
first : (c : After-word-w) → map low (words_from c.args.t.now (c.args.i + c.loop-j.j) (c.args.n - c.loop-j.j))
    ≡ (low c.word-w.result ∷ []) ++ map low (words_from c.args.t.now (c.args.i + (c.loop-j.j + 1)) (c.args.n - (c.loop-j.j + 1)))
first c = name-more c.args.t.now c.args.i c.args.n c.loop-j.j c.loop-j-test.true
    ∙ ap (λ (x : ℕ). (low x ∷ []) ++ map low (words_from c.args.t.now (c.args.i + (c.loop-j.j + 1)) (c.args.n - (c.loop-j.j + 1)))) (sym c.word-w.ensures.0)

pub loop-j-init : goal.loop-j-init
loop-j-init c = ap (λ l. ate (map low l) c.args.json.now c.args.at) (sym (words-start c.args.t.now c.args.i c.args.n))

pub returns-in_err-a : goal.returns-in_err-a
returns-in_err-a c = unreached c.args.json.now c.from_residual.ensures
    (cut-gone c.args.json.now _ _ c.loop-j.invariant (low c.word-w.result ∷ []) _ (first (goal.at.returns-in_err-a c).After-word-w) c.in_err-a.ensures.place)

pub loop-j-preserved : goal.loop-j-preserved
loop-j-preserved c =
    cut-on c.args.json.now _ _ c.loop-j.invariant (low c.word-w.result ∷ []) _ (first (goal.at.loop-j-preserved c).After-word-w) c.in_ok-a.ensures.place

pub returns : goal.returns
returns c = cut-end c.args.json.now _ _ c.loop-j.invariant (name-end c.args.t.now c.args.i c.args.n c.loop-j.j c.loop-j-test.false)
