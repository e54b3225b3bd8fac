-- What the reading functions promise: where the definition reads, the code stands behind what is read and has laid it. Nothing is said of other texts.
-- Assumes nothing: these are definitions.
use Rattle.std.specs.Prelude.{ℕ, ◌≤◌, ◌<◌, ◌≡◌, Bool, true, false, List, [], ◌∷◌, length}
use Rattle.std.proofs.Math.Option.{none, some}
use Rattle.grammar_table.specs.Table.{table_words}
use Rattle.read_tokens.specs.declared.Mode.{Mode}
use Rattle.read_tokens.specs.declared.Kind.{Kind}
use Rattle.read_tokens.specs.declared.Kind.TheVariants as kinds
use Rattle.read_tokens.specs.Token.{Symbol, Leaf, Tok, symbol, leaf, arrow}
use Rattle.read_tokens.specs.Tokens.{token_at, toks_of, toks, lexemes}
use Rattle.read_tokens.specs.steps.Code.{coded}
use Rattle.read_tokens.specs.laws.Forward.{lexemes_at}
use Rattle.grammar.specs.Exp.{Exp, sym, ter}
use Rattle.grammar.specs.Same.{same_symbol}
use Rattle.grammar.specs.Syntax.{Choice, Primary, Suffixed, Rules, tokens}
use Rattle.grammar.specs.Trees.{tree_c, tree_f, tree_q, trees}
use Rattle.grammar.specs.Numbers.{symbols_of, terminals_of, expressions_of, numbered}
use Rattle.grammar_table.specs.Holds.{Holds}
use Rattle.read_syntax.specs.Machine.{start, fine, judge}
use Rattle.read_syntax.specs.Reader.{Res, ok, suf_by, choice_p, rules_p}
use Rattle.read_syntax.specs.Reading.{second, unruled, lefts_in}
use Rattle.grammar_table.specs.steps.Rows.{cap}
use Rattle.grammar_table.specs.laws.Rows.{adds}
use Rattle.read_grammar.specs.declared.Asked.{Asked}
use Rattle.read_grammar.specs.declared.Asked.TheVariants.{Lefts, Every}
use Rattle.read_grammar.specs.declared.Counts.{Counts}
use Rattle.read_grammar.specs.steps.Lay.{St, st, lay, headed, lay_rules, gathered, Rel}

-- the tokens from a place on
abbrev pub toks_at : Mode → List ℕ → ℕ → List Tok
toks_at m s at = toks_of (lexemes_at m s at)

-- whether a part of a sequence that is no symbol begins with a token of a kind
abbrev pub begins_part : Kind → Bool
begins_part kinds.Any = true
begins_part kinds.Literal = true
begins_part kinds.Class = true
begins_part kinds.Amp = true
begins_part kinds.Bang = true
begins_part kinds.Opens = true
begins_part _ = false

-- the place behind the token at a place; at the text's end the place itself
pub record Over (m : Mode) (s : List ℕ) (at to : ℕ) : Type 0 where
  pub low : at ≤ to
  pub high : to ≤ length s
  pub behind : (t : Tok) (l : List Tok) → toks_at m s at ≡ t ∷ l → (at < to) × (toks_at m s to ≡ l)

-- a symbol's use, and a terminal's
pub record Occurs (s : List ℕ) (kind : Kind) (start size : ℕ) (old new : List ℕ) : Type 0 where
  pub same : (m : Mode) (at : ℕ) (h : Symbol) → (token_at m s at).is ≡ some (symbol h) → (coded (token_at m s at)).kind ≡ kind
      → (token_at m s at).start ≡ start → (coded (token_at m s at)).size ≡ size
      → (u : St) → Rel old u → Rel new (lay (sym h) u)

pub record Matches (m : Mode) (s : List ℕ) (kind : Kind) (start size : ℕ) (old new : List ℕ) : Type 0 where
  pub same : (at : ℕ) (x : Leaf) → (token_at m s at).is ≡ some (leaf x) → (coded (token_at m s at)).kind ≡ kind → (token_at m s at).start ≡ start
      → (coded (token_at m s at)).size ≡ size
      → (u : St) → Rel old u → Rel new (lay (ter x) u)

pub record Grown {A : Type 0} (reader : ℕ → List Tok → Res A) (tree : A → Exp Symbol) (m : Mode) (s : List ℕ) (at to : ℕ) (old new : List ℕ) : Type 0 where
  pub low : at ≤ to
  pub high : to ≤ length s
  pub forth : (toks_at m s at ≡ [] → ⊥) → at < to
  pub same : (f : ℕ) (a : A) (r : List Tok) → reader f (toks_at m s at) ≡ ok a r → (toks_at m s to ≡ r) × ((u : St) → Rel old u → Rel new (lay (tree a) u))

pub record Suffixes (m : Mode) (s : List ℕ) (at to : ℕ) (old new : List ℕ) : Type 0 where
  pub low : at ≤ to
  pub high : to ≤ length s
  pub same : (q : Primary) (e : Suffixed) (r : List Tok) → suf_by q (toks_at m s at) ≡ ok e r → (toks_at m s to ≡ r)
      × ((u : St) → Rel old (lay (tree_q q) u) → Rel new (lay (tree_f e) u))

-- one rule: symbol k gets its body
pub record Ruled (m : Mode) (s : List ℕ) (at k to : ℕ) (old new : List ℕ) : Type 0 where
  pub low : at ≤ to
  pub high : to ≤ length s
  pub forth : (toks_at m s at ≡ [] → ⊥) → at < to
  pub same : (f : ℕ) (h : Symbol) (l : List Tok) (c : Choice) (r : List Tok) → toks_at m s at ≡ symbol h ∷ arrow ∷ l → choice_p f l ≡ ok c r
      → (toks_at m s to ≡ r) × ((u : St) → k ≡ length u.heads → Rel old u → Rel new (headed (lay (tree_c c) u)))

-- the rules, with the bodies of symbols 0, 1, ..
pub record Laid (m : Mode) (s old new : List ℕ) : Type 0 where
  pub same : (f : ℕ) (g : Rules) → rules_p f (toks_at m s 0) ≡ ok g [] → (u : St) → u.heads ≡ [] → Rel old u → Rel new (lay_rules (trees g) u)

-- the symbols that are asked for: those that an arrow follows, or every one
abbrev pub every_of : Asked → Bool
every_of Lefts = false
every_of Every = true

-- there is no token, and nothing changes
pub record Ended (m : Mode) (s : List ℕ) (at : ℕ) (old new : List ℕ) : Type 0 where
  pub end : toks_at m s at ≡ []
  pub same : new ≡ old

-- one token passed: its symbol is noted, if it is asked for
pub record Marked (every : Bool) (m : Mode) (s : List ℕ) (at to : ℕ) (old new : List ℕ) : Type 0 where
  pub forth : at < to
  pub high : to ≤ length s
  pub same : (ns : List Symbol) → Rel old (st ns [] [] [])
      → (ms : List Symbol) × Rel new (st ms [] [] [])
      × (adds same_symbol ns (gathered every (toks_at m s at)) ≡ adds same_symbol ms (gathered every (toks_at m s to)))

-- the symbols of the text
pub record Named (every : Bool) (m : Mode) (s old new : List ℕ) : Type 0 where
  pub same : (ns : List Symbol) → Rel old (st ns [] [] []) → Rel new (st (adds same_symbol ns (gathered every (toks_at m s 0))) [] [] [])

-- ── the public promise ──
-- a text that refusals 2 to 5 let through, with its rules (01, Refusal numbers)
pub record Sound (m : Mode) (s : List ℕ) (g : Rules) : Type 0 where
  pub reads : tokens g ≡ toks m s
  pub bounded : judge m 0 start (lexemes m s) ≡ fine
  pub once : second m [] (lexemes m s) ≡ none
  pub ruled : unruled (lefts_in (lexemes m s)) (lexemes m s) ≡ none

-- counts are exact up to their bounds, one more says "too many"; a later one is told only where the earlier ones are within theirs
pub record Built (m : Mode) (s old new : List ℕ) (c : Counts) : Type 0 where
  pub symbols : (g : Rules) → Sound m s g → length old ≡ table_words → c.symbols ≡ cap 65 (length (symbols_of (trees g)))
  pub terminals : (g : Rules) → Sound m s g → length old ≡ table_words → length (symbols_of (trees g)) ≤ 64
      → c.terminals ≡ cap 65 (length (terminals_of (trees g)))
  pub expressions : (g : Rules) → Sound m s g → length old ≡ table_words → length (symbols_of (trees g)) ≤ 64 → length (terminals_of (trees g)) ≤ 64
      → c.expressions ≡ cap 1025 (expressions_of (trees g))
  pub holds : (g : Rules) → Sound m s g → length old ≡ table_words → length (symbols_of (trees g)) ≤ 64 → length (terminals_of (trees g)) ≤ 64
      → expressions_of (trees g) ≤ 1024
      → Holds new (numbered (trees g))
