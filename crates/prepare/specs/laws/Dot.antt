-- `.` is terminal 0 of every grammar (01, Notation: "`.` is 0 always"). Assumes nothing.
use Rattle.std.specs.Prelude.{◌<◌, ◌≡◌, refl, List, length}
use Rattle.std.proofs.Common.{arith}
use Rattle.read_tokens.specs.Token.{any}
use Rattle.grammar.specs.Exp.{Rule}
use Rattle.grammar.specs.Same.{same_leaf, index_of}
use Rattle.grammar.specs.Numbers.{terminals_of, numbered}
use Rattle.grammar.specs.Numbers.{terminal_in}

pub dot-first : (rs : List Rule) → terminal_in (numbered rs) any ≡ 0
unfolding numbered terminals_of index_of same_leaf
dot-first rs = refl

pub dot-in : (rs : List Rule) → terminal_in (numbered rs) any < length (numbered rs).terminals
unfolding numbered terminals_of index_of same_leaf
dot-in rs = omega arith
