-- The cells that code makes are those of the bodies that a table holds, and they are right. Assumes nothing.
use Rattle.std.specs.Prelude.{ℕ, zero, suc, ◌+◌, ◌*◌, ◌≤◌, ◌≡◌, refl, List, [], ◌∷◌, ◌++◌, length, get_or, drop, replicate}
use Rattle.std.proofs.Math.Path.{sym}
use Rattle.std.proofs.Common.{ap, ap₂, ◌∙◌, subst, arith}
use Rattle.std.proofs.Math.Option.{none}
use Rattle.read_tokens.specs.Token.{any}
use Rattle.grammar.specs.Exp.{Exp, ter}
use Rattle.grammar.specs.Numbers.{Grammar}
use Rattle.grammar_table.specs.Table.{words_from, symbol_count, symbol_word, name_in}
use Rattle.grammar.specs.Numbers.{terminal_in}
use Rattle.lake_rules.specs.Beginning.{marked, marks_of}
use Rattle.lake_step_one.specs.Proper.{SoundAll}
use Rattle.grammar_table.specs.laws.Places.{is-up_to, up_to-long}
use Rattle.lake_plain.specs.Calls.{loop, order}
use Rattle.grammar_table.specs.Trees.{tree_of, bodies_of}
use Rattle.lake_calls.specs.laws.Trees.{bodies-are, trees-are}
use Rattle.match_eval.specs.steps.Memory.{Knows}
use Rattle.match_cells.specs.Cells.{cells}
use Rattle.match_cells.specs.laws.First.{Ordered}
use Rattle.match_cells.specs.laws.Agrees.{Right}
use Rattle.match_cells.specs.laws.Filled.{filled-right}
use Rattle.match_cells.specs.laws.Preset.{filled-same}
use Rattle.lake_calls.specs.steps.Ordering.{OrderedIn}
use Rattle.match_cells.specs.steps.Runs.{Plain, FilledBy, Fills}
use Rattle.match_cells.specs.laws.Order.{ordered}
use Rattle.match_cells.specs.laws.Full.{order-full, calls-small, markings}

pub zeros : (n j : ℕ) → ◌≡◌ {A = ℕ} (get_or (replicate {A = ℕ} n 0) j 0) 0
zeros zero j = refl
zeros (suc n) zero = refl
zeros (suc n) (suc j) = zeros n j

-- what is known over n symbols, where n is how many a table counts
pub knows_count : (t s cs mem : List ℕ) (n k : ℕ) → n ≡ k → Knows t s cs n mem 0 0 → Knows t s cs k mem 0 0
knows_count t s cs mem n k e w = subst (λ (j : ℕ). Knows t s cs j mem 0 0) e w

-- ── the cells ──
words-shift : (x i n : ℕ) (l : List ℕ) → words_from (x ∷ l) (suc i) n ≡ words_from l i n
unfolding words_from
words-shift x i zero l = refl
words-shift x i (suc n) l = ap (λ (r : List ℕ). get_or l i 0 ∷ r) (words-shift x (suc i) n l)

words-front : (a b : List ℕ) → words_from (a ++ b) 0 (length a) ≡ a
unfolding words_from
words-front [] b = refl
words-front (x ∷ a) b = ap (λ (r : List ℕ). x ∷ r) (words-shift x 0 (length a) (a ++ b) ∙ words-front a b)

module _ (t : List ℕ) (g : Grammar) (bodies : List (Exp ℕ)) (p : Plain t g bodies) where
  pub bodies_of_lem : bodies_of t ≡ bodies
  unfolding bodies_of
  bodies_of_lem =
      sym (is-up_to (ter any) (λ r. tree_of t (symbol_word t r 1)) bodies (symbol_count t) (sym (bodies-are t g bodies p.holds))
      (λ i l. sym (trees-are t g bodies p.holds p.sound i (omega (arith, bodies-are t g bodies p.holds)))))

  names-long : length g.names ≡ length bodies
  names-long = sym (sym (up_to-long (name_in t) (symbol_count t)) ∙ ap length p.holds.names) ∙ bodies-are t g bodies p.holds

  sound-in : SoundAll (terminal_in g) (length bodies) (length g.terminals) bodies
  sound-in = subst (λ (n : ℕ). SoundAll (terminal_in g) n (length g.terminals) bodies) names-long p.sound

  module _ (clear : loop bodies ≡ none) where
    pub full : length (order bodies) ≡ length bodies
    full = order-full (terminal_in g) (length g.terminals) bodies sound-in clear

    pub in_order : Ordered (marked (marks_of bodies)) bodies [] (order bodies)
    in_order = ordered bodies (calls-small (terminal_in g) (length g.terminals) bodies sound-in) clear

    -- the filled cells say what each symbol means at each place
    pub cells_right : (s old : List ℕ) → (length s + 1) * length bodies ≤ length old → Right bodies s (cells bodies (order bodies) s old)
    cells_right s old room = filled-right bodies s (marked (marks_of bodies)) (markings (terminal_in g) (length g.terminals) bodies sound-in) (order bodies) old in_order room

pub fills : (t s old new order₀ front : List ℕ) (n : ℕ) → n ≡ symbol_count t → OrderedIn t n order₀ front → FilledBy t (bodies_of t) s n (words_from front 0 n) old new → Fills t s old new
fills t s old new order₀ front n q o e = record {
  are =
      λ g bodies p clear.
      let b : n ≡ length bodies = q ∙ bodies-are t g bodies p.holds in
      let f : words_from front 0 n ≡ order bodies =
      ap₂ (λ (l : List ℕ) (k : ℕ). words_from l 0 k) (o.are g bodies p.holds p.sound b) (b ∙ sym (full t g bodies p clear))
      ∙ words-front (order bodies) (drop (length (order bodies)) order₀) in
      filled-same t bodies s (marked (marks_of bodies)) (markings (terminal_in g) (length g.terminals) bodies (sound-in t g bodies p)) (order bodies) old new (in_order t g bodies p clear)
      (subst (λ (k : ℕ). FilledBy t bodies s k (order bodies) old new) b
      (subst (λ (l : List ℕ). FilledBy t bodies s n l old new) f (subst (λ (bs : List (Exp ℕ)). FilledBy t bs s n (words_from front 0 n) old new) (bodies_of_lem t g bodies p) e)));
}
