-- A grammar as text (01, Writing): bytes, terminals and symbols, expressions with the parentheses that are needed, rules.
-- That the text is read as the same grammar is proved in laws/. Assumes nothing: these are definitions.
use Rattle.std.specs.Prelude.{ℕ, suc, ◌+◌, ◌/◌, ◌%◌, Bool, true, false, cond, ◌&&◌, List, [], ◌∷◌, ◌++◌, eqb, leb, ltb}
use Rattle.std.proofs.Math.Option.{Option, none, some}
use Rattle.read_tokens.specs.Token.{Symbol, Leaf, Prefix, Suffix, name, lake, any, literal, class, amp, bang, query, asterisk, cross}
use Rattle.read_tokens.specs.Bounds.{raw_from}
use Rattle.read_tokens.specs.Chars.{Range, range}
use Rattle.grammar.specs.Exp.{Exp, Rule, sym, ter, seq, alt, opt, star, plus, ahead, never}

-- ── bytes ──
-- "three octal digits"
abbrev pub octal_text : ℕ → List ℕ
octal_text c = 92 ∷ (48 + c / 64) ∷ (48 + c / 8 % 8) ∷ (48 + c % 8) ∷ []

-- a byte that has no meaning of its own where it stands
unfoldable pub byte_text : ℕ → List ℕ
byte_text c =
    cond (eqb c 92) (92 ∷ 92 ∷ [])
    (cond (eqb c 10) (92 ∷ 110 ∷ [])
    (cond (eqb c 13) (92 ∷ 114 ∷ [])
    (cond (eqb c 9) (92 ∷ 116 ∷ [])
    (cond (leb 32 c && leb c 126) (c ∷ [])
    (cond (leb raw_from c) (c ∷ []) (octal_text c))))))

unfoldable pub lit_char : ℕ → List ℕ
lit_char c = cond (eqb c 39) (92 ∷ 39 ∷ []) (byte_text c)

-- "`[` and `]` in classes; in classes `-` is `\055` and `^` is `\136`"
unfoldable pub class_char : ℕ → List ℕ
class_char c =
    cond (eqb c 91) (92 ∷ 91 ∷ [])
    (cond (eqb c 93) (92 ∷ 93 ∷ [])
    (cond (eqb c 45) (92 ∷ 48 ∷ 53 ∷ 53 ∷ [])
    (cond (eqb c 94) (92 ∷ 49 ∷ 51 ∷ 54 ∷ []) (byte_text c))))

-- ── terminals: "literals in `'`; runs of two or more class bytes as lo-hi, ascending" ──
unfoldable pub lit_chars : List ℕ → List ℕ
lit_chars [] = []
lit_chars (c ∷ l) = lit_char c ++ lit_chars l

-- the runs of marked bytes: the run that is open, the number of the first mark, the marks
unfoldable pub runs : Option Range → ℕ → List Bool → List Range
runs none i [] = []
runs (some r) i [] = r ∷ []
runs none i (false ∷ l) = runs none (suc i) l
runs none i (true ∷ l) = runs (some (range i i)) (suc i) l
runs (some r) i (false ∷ l) = r ∷ runs none (suc i) l
runs (some r) i (true ∷ l) = runs (some (range r.lo i)) (suc i) l

unfoldable pub run_text : Range → List ℕ
run_text r = cond (eqb r.lo r.hi) (class_char r.lo) (class_char r.lo ++ (45 ∷ class_char r.hi))

unfoldable pub runs_text : List Range → List ℕ
runs_text [] = []
runs_text (r ∷ rs) = run_text r ++ runs_text rs

unfoldable pub leaf_text : Leaf → List ℕ
leaf_text any = 46 ∷ []
leaf_text (literal l) = 39 ∷ (lit_chars l ++ (39 ∷ []))
leaf_text (class l) = 91 ∷ (runs_text (runs none 0 l) ++ (93 ∷ []))

-- ── symbols ──
unfoldable pub symbol_text : Symbol → List ℕ
symbol_text (name w) = w
symbol_text (lake w) = 60 ∷ (w ++ (62 ∷ []))

-- ── expressions ──
abbrev pub prefix_byte : Prefix → ℕ
prefix_byte amp = 38
prefix_byte bang = 33

abbrev pub suffix_byte : Suffix → ℕ
suffix_byte query = 63
suffix_byte asterisk = 42
suffix_byte cross = 43

-- 0 choice, 1 sequence, 2 prefix, 3 suffix, 4 primary
abbrev pub level : Exp Symbol → ℕ
level (sym h) = 4
level (ter x) = 4
level (seq a b) = 1
level (alt a b) = 0
level (opt a) = 3
level (star a) = 3
level (plus a) = 3
level (ahead a) = 2
level (never a) = 2

abbrev pub wrap : Bool → List ℕ → List ℕ
wrap true l = 40 ∷ (l ++ (41 ∷ []))
wrap false l = l

-- the text t of e, where an expression of level k or tighter may stand bare
abbrev pub put : ℕ → Exp Symbol → List ℕ → List ℕ
put k e t = wrap (ltb (level e) k) t

-- "only needed parentheses: under a suffix anything but a primary; under a prefix a prefix, sequence or choice; in a sequence a choice,
-- and on the right a sequence; on the right of a choice a choice"
unfoldable pub expr_text : Exp Symbol → List ℕ
expr_text (sym h) = symbol_text h
expr_text (ter x) = leaf_text x
expr_text (seq a b) = put 1 a (expr_text a) ++ (32 ∷ put 2 b (expr_text b))
expr_text (alt a b) = put 0 a (expr_text a) ++ (32 ∷ 47 ∷ 32 ∷ put 1 b (expr_text b))
expr_text (opt a) = put 4 a (expr_text a) ++ (suffix_byte query ∷ [])
expr_text (star a) = put 4 a (expr_text a) ++ (suffix_byte asterisk ∷ [])
expr_text (plus a) = put 4 a (expr_text a) ++ (suffix_byte cross ∷ [])
expr_text (ahead a) = prefix_byte amp ∷ put 3 a (expr_text a)
expr_text (never a) = prefix_byte bang ∷ put 3 a (expr_text a)

-- ── rules: "name, ` <- `, expression, LF" ──
unfoldable pub rule_text : Rule → List ℕ
rule_text r = symbol_text r.left ++ (32 ∷ 60 ∷ 45 ∷ 32 ∷ (expr_text r.right ++ (10 ∷ [])))

unfoldable pub text : List Rule → List ℕ
text [] = []
text (r ∷ rs) = rule_text r ++ text rs
