-- What the calls of this layer promise of lent memory. Assumes nothing: these are definitions.
use Rattle.std.specs.Prelude.{ℕ, zero, suc, ◌+◌, ◌^◌, ◌≤◌, ◌≡◌, Bool, false, cond, not, ◌&&◌, ◌||◌, List, get_or, take, eqb}
use Rattle.base_words.specs.Set.{member_of}
use Rattle.grammar.specs.Numbers.{Grammar}
use Rattle.grammar_table.specs.Table.{symbol_count, expression_count, symbol_word}
use Rattle.grammar_table.specs.Holds.{Holds}
use Rattle.lake_sets.specs.declared.Sets.{Sets}
use Rattle.lake_rules.specs.Analysis.{Analysis, analysis, cannot_skip}
use Rattle.lake_sets.specs.SetsAt.{sets_at}
use Rattle.lake_sets.specs.steps.Steps.{Tame, marks_in, BegunAll, alt_in}
use Rattle.lake_step_one.specs.Proper.{Proper, middle}
use Rattle.lake_sets.specs.steps.Analysed.{Analysed}

-- marks and BEGINNING
pub record Begins (t : List ℕ) (n r : ℕ) (ms : List Bool) (sets : List (List ℕ)) (eps : List Bool) : Type 0 where
  pub marks : (x : ℕ) → Tame t n r x → ms ≡ marks_in t n r r
  pub begins : BegunAll t ms n sets eps

-- the analysis of each grammar whose intermediate form the table holds, in runs as long as there are expressions and symbols
abbrev pub Parted : List ℕ → ℕ → ℕ → List Bool → List (List ℕ) → List Bool → List (List ℕ) → List (List ℕ) → ℕ → Type 0
Parted t n r ms sets eps succ alts k =
    (g : Grammar) → Holds t (middle g) → Proper g → n ≡ expression_count t → r ≡ symbol_count t → Analysed (analysis g) ms sets eps succ alts k

-- the same at the front of longer runs
abbrev pub Fronted : List ℕ → List Bool → List (List ℕ) → List Bool → List (List ℕ) → List (List ℕ) → ℕ → Type 0
Fronted t ms sets eps succ alts k =
    (g : Grammar) → Holds t (middle g) → Proper g
    → Analysed (analysis g) (take (symbol_count t) ms) (take (expression_count t) sets) (take (expression_count t) eps) (take (expression_count t) succ)
    (take (expression_count t) alts) k

-- the sets of expression e from 1, of whatever analysis stands at the front of the runs
abbrev pub SetsOf : List (List ℕ) → List Bool → List (List ℕ) → List (List ℕ) → ℕ → Sets → Type 0
SetsOf sets eps succ alts e r =
    (a : Analysis) (n m k : ℕ) (ms : List Bool) → e ≤ n → Analysed a (take m ms) (take n sets) (take n eps) (take n succ) (take n alts) k → r ≡ sets_at a e

-- ---- the lakes that cannot skip, over a table: the word 0 of a symbol's record says whether it is a lake
abbrev pub lake_in : List ℕ → ℕ → Bool
lake_in t n = not (eqb (symbol_word t n 0) 0)

abbrev pub hit_in : List ℕ → List Bool → List ℕ → ℕ → Bool
hit_in t ms s n = member_of s n && (not (lake_in t n) && get_or ms n false)

unfoldable pub blocked_in : List ℕ → List Bool → List ℕ → ℕ → Bool
blocked_in t ms s zero = false
blocked_in t ms s (suc n) = hit_in t ms s n || blocked_in t ms s n

abbrev pub skip_in : List ℕ → List Bool → List (List ℕ) → ℕ → ℕ → Bool
skip_in t ms alts r n = lake_in t n && blocked_in t ms (alt_in t alts n) r

-- those below n, as a word
unfoldable pub skips_in : List ℕ → List Bool → List (List ℕ) → ℕ → ℕ → ℕ
skips_in t ms alts r zero = 0
skips_in t ms alts r (suc n) = skips_in t ms alts r n + cond (skip_in t ms alts r n) (2 ^ n) 0

-- of whatever analysis stands at the front of the runs
abbrev pub CannotSkip : List ℕ → List Bool → List (List ℕ) → ℕ → Type 0
CannotSkip t ms alts w =
    (g : Grammar) (sets : List (List ℕ)) (eps : List Bool) (succ : List (List ℕ)) (k : ℕ) → Holds t (middle g) → Proper g
    → Analysed (analysis g) (take (symbol_count t) ms) sets eps succ (take (expression_count t) alts) k → w ≡ cannot_skip g (analysis g)
