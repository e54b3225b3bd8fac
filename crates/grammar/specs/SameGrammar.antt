-- "Two grammars are the same when names, rules and expressions agree, terminals taken by content" (01, Notation). Assumes nothing: these are definitions.
use Rattle.std.specs.Prelude.{◌≡◌, true, List, [], ◌∷◌}
use Rattle.read_tokens.specs.Token.{Symbol, Leaf}
use Rattle.grammar.specs.Exp.{Exp, Rule, sym, ter, seq, alt, opt, star, plus, ahead, never}
use Rattle.grammar.specs.Same.{same_symbol, same_leaf}

-- expressions agree: the same operators over the same names, and over terminals of the same content
pub data SameExp : Exp Symbol → Exp Symbol → Type 0 where
  by_name : {h k : Symbol} → same_symbol h k ≡ true → SameExp (sym h) (sym k)
  by-content : {x y : Leaf} → same_leaf x y ≡ true → SameExp (ter x) (ter y)
  seqs : {a b c d : Exp Symbol} → SameExp a c → SameExp b d → SameExp (seq a b) (seq c d)
  alts : {a b c d : Exp Symbol} → SameExp a c → SameExp b d → SameExp (alt a b) (alt c d)
  opts : {a c : Exp Symbol} → SameExp a c → SameExp (opt a) (opt c)
  stars : {a c : Exp Symbol} → SameExp a c → SameExp (star a) (star c)
  pluses : {a c : Exp Symbol} → SameExp a c → SameExp (plus a) (plus c)
  aheads : {a c : Exp Symbol} → SameExp a c → SameExp (ahead a) (ahead c)
  nevers : {a c : Exp Symbol} → SameExp a c → SameExp (never a) (never c)

-- rule by rule, in order
abbrev pub SameGrammar : List Rule → List Rule → Type 0
SameGrammar [] [] = Unit {0}
SameGrammar [] (q ∷ qs) = ⊥
SameGrammar (r ∷ rs) [] = ⊥
SameGrammar (r ∷ rs) (q ∷ qs) = (same_symbol r.left q.left ≡ true) × SameExp r.right q.right × SameGrammar rs qs
