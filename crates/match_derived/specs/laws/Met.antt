-- The definitions can be met and computed: the grammar G of 01 (Cases) on `{a;}`. Its order has first-called symbols first, its cells are right, its four
-- nodes are those of 01's lines. Assumes nothing.
use Rattle.std.specs.Prelude.{ℕ, zero, suc, ◌<◌, ◌≡◌, refl, Bool, true, false, List, [], ◌∷◌, replicate}
use Rattle.std.proofs.Common.{subst, inl, inr, arith}
use Rattle.std.proofs.lemmas.Bool.{false≢true}
use Rattle.std.proofs.Math.Option.{none}
use Rattle.read_tokens.specs.Token.{any, literal}
use Rattle.read_tokens.specs.Bounds.{depth_bound, node_words}
use Rattle.grammar.specs.Exp.{Exp, sym, ter, seq, alt, star, never}
use Rattle.grammar.specs.Lakes.{step_one, choice_of, skip_of, step_two}
use Rattle.match_meaning.specs.Meaning.{nd}
use Rattle.match_eval.specs.Eval.{body_of, stands, leaf_at, cell_at, join_of, seq_of, alt_of, step_of, rep, plus_of, opt_of, ahead_of, never_of, ev}
use Rattle.match_cells.specs.Cells.{body_takes, row_of, fill_of, cells}
use Rattle.grammar.specs.Empty.{empty_leaf, has_empty}
use Rattle.lake_plain.specs.Loops.{Calls}
use Rattle.match_cells.specs.laws.First.{Terse, Markings, In, Ordered}
use Rattle.match_list.specs.Nodes.{seq_n, alt_n, opt_n, step_n, rep_n, walk_of, node_if, nodes_of, levels, list_of, listing_of, in_words, put_node, written, words_of, node_at, sound_at, node_text}
use Rattle.match_cells.specs.laws.Agrees.{Right}
use Rattle.match_cells.specs.laws.Filled.{filled-right}

abbrev byte : ℕ → Exp ℕ
byte b = ter (literal (b ∷ []))

abbrev block : Exp ℕ
block = seq (seq (byte 123) (star (sym 1))) (byte 125)

abbrev stmt : Exp ℕ
stmt = alt (sym 2) (sym 0)

abbrev expr-stmt : Exp ℕ
expr-stmt = seq (star (sym 3)) (byte 59)

-- `!(block / '}' / ';') .` (02, §4)
abbrev elake : Exp ℕ
elake = seq (never (alt (alt (sym 0) (byte 125)) (byte 59))) (ter any)

elake-is : step_two (step_one none none) (sym 0 ∷ byte 125 ∷ byte 59 ∷ []) ≡ elake
unfolding step_one choice_of skip_of step_two
elake-is = refl

abbrev G : List (Exp ℕ)
G = block ∷ stmt ∷ expr-stmt ∷ elake ∷ []

abbrev text : List ℕ
text = 123 ∷ 97 ∷ 59 ∷ 125 ∷ []

abbrev order : List ℕ
order = 0 ∷ 3 ∷ 2 ∷ 1 ∷ []

-- no symbol has ε
abbrev marks : ℕ → Bool
marks r = false

marked : Markings marks G
unfolding has_empty empty_leaf
marked = record { marks = has; terse = full }
  where
    has : (r : ℕ) → r < 4 → has_empty marks (body_of G r) ≡ true → marks r ≡ true
    has zero l h = absurd (false≢true h)
    has (suc zero) l h = absurd (false≢true h)
    has (suc (suc zero)) l h = absurd (false≢true h)
    has (suc (suc (suc zero))) l h = absurd (false≢true h)
    has (suc (suc (suc (suc r)))) l h = absurd (omega arith)

    full : (r : ℕ) → Terse (body_of G r)
    full zero = ((refl, tt), refl)
    full (suc zero) = (tt, tt)
    full (suc (suc zero)) = (tt, refl)
    full (suc (suc (suc zero))) = (((tt, refl), refl), refl)
    full (suc (suc (suc (suc r)))) = refl

block-first : (x : ℕ) → Calls marks block x → x < 4 → ⊥
unfolding has_empty empty_leaf
block-first x (inl (inl e)) l = e
block-first x (inl (inr e)) l = false≢true e.0
block-first x (inr e) l = e.1

lake-first : (x : ℕ) → Calls marks elake x → x < 4 → In x (0 ∷ [])
lake-first x (inl (inl (inl e))) l = inl e
lake-first x (inl (inl (inr e))) l = absurd e
lake-first x (inl (inr e)) l = absurd e
lake-first x (inr e) l = absurd e.1

expr-first : (x : ℕ) → Calls marks expr-stmt x → x < 4 → In x (3 ∷ 0 ∷ [])
expr-first x (inl e) l = inl e
expr-first x (inr e) l = absurd e.1

stmt-first : (x : ℕ) → Calls marks stmt x → x < 4 → In x (2 ∷ 3 ∷ 0 ∷ [])
stmt-first x (inl e) l = inl e
stmt-first x (inr e) l = inr (inr (inl e))

every : (x : ℕ) → x < 4 → In x (1 ∷ 2 ∷ 3 ∷ 0 ∷ [])
every zero l = inr (inr (inr (inl refl)))
every (suc zero) l = inl refl
every (suc (suc zero)) l = inr (inl refl)
every (suc (suc (suc zero))) l = inr (inr (inl refl))
every (suc (suc (suc (suc x)))) l = absurd (omega arith)

ordered : Ordered marks G [] order
ordered = (omega arith, λ x c l. absurd (block-first x c l), (omega arith, lake-first, (omega arith, expr-first, (omega arith, stmt-first, every))))

abbrev twenty : List ℕ
twenty = 5 ∷ 5 ∷ 0 ∷ 0 ∷ 0 ∷ 3 ∷ 3 ∷ 2 ∷ 0 ∷ 2 ∷ 2 ∷ 0 ∷ 0 ∷ 0 ∷ 0 ∷ 0 ∷ 0 ∷ 0 ∷ 0 ∷ 0 ∷ []

-- lent words, whatever they held
abbrev lent : List ℕ
lent = replicate 20 7

pub cells_are : cells G order text lent ≡ twenty
unfolding stands leaf_at cell_at join_of seq_of alt_of step_of rep plus_of opt_of ahead_of never_of ev body_takes row_of fill_of cells
cells_are = refl

pub cells_right : Right G text twenty
cells_right = subst (λ (cs : List ℕ). Right G text cs) cells_are (filled-right G text marks marked order lent ordered (omega arith))

pub four : list_of G text twenty ≡ nd 0 0 4 0 ∷ nd 1 1 3 1 ∷ nd 2 1 3 2 ∷ nd 3 1 2 3 ∷ []
unfolding stands leaf_at cell_at join_of seq_of alt_of step_of rep plus_of opt_of ahead_of never_of ev seq_n alt_n opt_n step_n rep_n walk_of node_if nodes_of levels list_of depth_bound
four = refl

-- written behind nothing else, the second node's text is `a;`
pub second : node_text text (words_of 4 (replicate 17 9) (list_of G text twenty)) 1 ≡ 97 ∷ 59 ∷ []
unfolding depth_bound node_words listing_of in_words put_node written words_of node_at sound_at node_text
second = rw four
