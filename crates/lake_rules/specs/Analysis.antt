-- The three sets of every intermediate expression, and the round count (01, Lakes made plain; 01, Meaning of a match, "Other calls"; 02, §4).
-- Assumes nothing: these are definitions.
use Rattle.std.specs.Prelude.{ℕ, zero, suc, ◌+◌, ◌*◌, ◌^◌, Bool, false, cond, not, ◌&&◌, ◌||◌, List, [], length, get_or, leb, eqb}
use Rattle.read_tokens.specs.Token.{Symbol, name}
use Rattle.grammar.specs.Numbers.{Grammar, is_lake}
use Rattle.base_words.specs.Set.{union_of, empty, member_of}
use Rattle.base_rounds.specs.Rounds.{Settled}
use Rattle.grammar_table.specs.Holds.{present, roots_from}
use Rattle.lake_step_one.specs.Proper.{middle}
use Rattle.grammar.specs.Parts.{Part, terminal, occurs, sequence, choice, option, repeat, repeat1, affirms, denies, parts_all}
use Rattle.lake_rules.specs.Beginning.{Beginning, nothing, marks_by, marked, right_empty, beginnings}
use Rattle.lake_rules.specs.Flows.{over_parts, succeed_gifts, succeed_edges, alt_gifts, alt_edges, least_by}
use Rattle.grammar.specs.Numbers.{terminal_in}

-- ε marks by symbol, the root of each symbol (0 where it has no body, else 1 + its number), the expressions, and by expression BEGINNING, SUCCEED and ALT
pub record Analysis : Type 0 where
  pub marks : List Bool
  pub roots : List ℕ
  pub parts : List Part
  pub begins : List Beginning
  pub succeeds : List (List ℕ)
  pub alts : List (List ℕ)
  pub rounds : ℕ

unfoldable pub analysed : List Bool → List ℕ → List Part → ℕ → Analysis
analysed marks roots parts most =
    let begins : List Beginning = beginnings (marked marks) parts in
    let bs : ℕ → Beginning = λ i. get_or begins i nothing in
    let root : ℕ → ℕ = λ r. get_or roots r 0 in
    let succeed : Settled (List (List ℕ)) = least_by most (length parts) (over_parts (succeed_gifts bs root) 0 parts) (over_parts (succeed_edges bs root) 0
    parts) in
    let alt : Settled (List (List ℕ)) = least_by most (length parts) (over_parts (alt_gifts bs root (λ i. get_or succeed.state i empty)) 0 parts)
    (over_parts (alt_edges bs root) 0 parts) in
    record { marks = marks; roots = roots; parts = parts; begins = begins; succeeds = succeed.state; alts = alt.state; rounds = alt.count }

-- of a grammar's right sides as they are
unfoldable pub analysis_in : Grammar → Analysis
analysis_in g =
    let parts : List Part = parts_all (terminal_in g) 0 (present g.rights) in
    analysed (marks_by right_empty g.rights) (roots_from 0 g.rights) parts (length parts * (length g.names + length g.terminals))

-- of its intermediate form
unfoldable pub analysis : Grammar → Analysis
analysis g = analysis_in (middle g)

-- "no such expression"
abbrev pub is_expression : Analysis → ℕ → Bool
is_expression a e = leb 1 e && leb e (length a.begins)

-- whether an expression is a use of symbol r
abbrev pub is_use : Part → ℕ → Bool
is_use (terminal t) r = false
is_use (occurs s) r = eqb s r
is_use (sequence a b) r = false
is_use (choice a b) r = false
is_use (option a) r = false
is_use (repeat a) r = false
is_use (repeat1 a) r = false
is_use (affirms a) r = false
is_use (denies a) r = false

-- the union of ALT over the uses of symbol r, among the first n expressions
unfoldable pub uses_alt : (ℕ → Part) → (ℕ → List ℕ) → ℕ → ℕ → List ℕ
uses_alt part alt r zero = empty
uses_alt part alt r (suc n) = cond (is_use (part n) r) (union_of (uses_alt part alt r n) (alt n)) (uses_alt part alt r n)

-- ALT of a lake: "Without a body the guard comes from the union over the lake's occurrences" (02, §4); with one it is ALT of the body (laws/Uses)
unfoldable pub lake_alt : Analysis → ℕ → List ℕ
lake_alt a r = uses_alt (λ i. get_or a.parts i (terminal 0)) (λ i. get_or a.alts i empty) r (length a.parts)

-- whether some symbol below n is a nonterminal in the set and its body has ε
unfoldable pub blocked_by : List Symbol → List Bool → List ℕ → ℕ → Bool
blocked_by names marks s zero = false
blocked_by names marks s (suc n) = (member_of s n && (not (is_lake (get_or names n (name []))) && marked marks n)) || blocked_by names marks s n

-- "the lakes with a nonterminal in ALT whose body has ε", those below n, as a word: bit = symbol
unfoldable pub cannot_skip_below : Grammar → Analysis → ℕ → ℕ
cannot_skip_below g a zero = 0
cannot_skip_below g a (suc n) =
    cannot_skip_below g a n + cond (is_lake (get_or g.names n (name [])) && blocked_by g.names a.marks (lake_alt a n) (length g.names)) (2 ^ n) 0

unfoldable pub cannot_skip : Grammar → Analysis → ℕ
cannot_skip g a = cannot_skip_below g a (length g.names)
