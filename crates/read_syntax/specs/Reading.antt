-- Reading a grammar text: refusals 1 to 6 with their places, "in order of check", and the rules that are read (01, Refusal numbers; 01, Notation).
-- Assumes nothing: these are definitions.
use Rattle.std.specs.Prelude.{ℕ, ◌*◌, Bool, true, false, not, ◌&&◌, ◌||◌, List, [], ◌∷◌, length, eqb, ltb}
use Rattle.std.proofs.Math.Option.{Option, none, some}
use Rattle.read_tokens.specs.declared.Mode.{Mode}
use Rattle.read_tokens.specs.declared.Mode.TheVariants.{Lake, Plain}
use Rattle.read_tokens.specs.Token.{Symbol, Tok, Lexeme, name, lake, symbol, leaf, pre, suf, arrow, slash, opens, closes, bad}
use Rattle.read_tokens.specs.Bounds.{text_bound, symbol_bound, terminal_bound, expression_bound}
use Rattle.read_tokens.specs.Tokens.{lexemes, toks_of}
use Rattle.grammar.specs.Exp.{Rule}
use Rattle.grammar.specs.Same.{same_symbol, is_in}
use Rattle.grammar.specs.Syntax.{Rules}
use Rattle.grammar.specs.Trees.{trees}
use Rattle.grammar.specs.Numbers.{symbols_of, terminals_of, expressions_of}
use Rattle.grammar.specs.Refusal.{Refusal, refuse_if, refuse_at, ◌▸◌}
use Rattle.read_syntax.specs.Machine.{start, name_of, Judged, fine, syntax, wide, judge, place_of}
use Rattle.read_syntax.specs.Reader.{Res, ok, no, out, is_arrow, rules_p}

-- 1: "grammar text too long", place "its bound"
abbrev pub too_long : Mode → List ℕ → Option Refusal
too_long m s = refuse_if (ltb (text_bound m) (length s)) 1 (text_bound m)

-- 2 and 3, by the walk from the left
abbrev pub offence : ℕ → List Lexeme → Judged → Option Refusal
offence n xs fine = none
offence n xs (syntax k) = refuse_at 2 (some (place_of n xs k))
offence n xs (wide k) = refuse_at 3 (some (place_of n xs k))

-- "names, a lake's too, may not begin with `lake__`" in lake mode
unfoldable pub starts_with : List ℕ → List ℕ → Bool
starts_with [] w = true
starts_with (a ∷ l) [] = false
starts_with (a ∷ l) (b ∷ w) = eqb a b && starts_with l w

unfoldable pub reserved : Mode → Symbol → Bool
reserved Lake h = starts_with (108 ∷ 97 ∷ 107 ∷ 101 ∷ 95 ∷ 95 ∷ []) (name_of h)
reserved Plain h = false

-- whether an arrow comes next: "a name or lake not followed by `<-`" is a use, any other a left side
abbrev pub before : List Lexeme → Bool
before l = is_arrow (toks_of l)

-- 4: "second left side, or reserved name", place "leftmost such token"; seen: the left sides before
abbrev pub second_by : Mode → List Symbol → Tok → ℕ → Bool → (List Symbol → Option ℕ) → Option ℕ
second_by m seen (symbol h) i left k =
    elim (reserved m h || (left && is_in same_symbol h seen)) [ true ↦ some i | false ↦ elim left [ true ↦ k (h ∷ seen) | false ↦ k seen ] ]
second_by m seen (leaf x) i left k = k seen
second_by m seen (pre x) i left k = k seen
second_by m seen (suf x) i left k = k seen
second_by m seen arrow i left k = k seen
second_by m seen slash i left k = k seen
second_by m seen opens i left k = k seen
second_by m seen closes i left k = k seen
second_by m seen bad i left k = k seen

unfoldable pub second : Mode → List Symbol → List Lexeme → Option ℕ
second m seen [] = none
second m seen (x ∷ l) = second_by m seen x.is x.start (before l) (λ more. second m more l)

-- the left sides
abbrev pub left_by : Tok → Bool → List Symbol → List Symbol
left_by (symbol h) true hs = h ∷ hs
left_by (symbol h) false hs = hs
left_by (leaf x) b hs = hs
left_by (pre x) b hs = hs
left_by (suf x) b hs = hs
left_by arrow b hs = hs
left_by slash b hs = hs
left_by opens b hs = hs
left_by closes b hs = hs
left_by bad b hs = hs

unfoldable pub lefts_in : List Lexeme → List Symbol
lefts_in [] = []
lefts_in (x ∷ l) = left_by x.is (before l) (lefts_in l)

-- 5: "nonterminal without a rule", place "first such use"; a lake needs none
abbrev pub lacks : List Symbol → Tok → Bool → Bool
lacks lefts (symbol (name w)) left = not left && not (is_in same_symbol (name w) lefts)
lacks lefts (symbol (lake w)) left = false
lacks lefts (leaf x) left = false
lacks lefts (pre x) left = false
lacks lefts (suf x) left = false
lacks lefts arrow left = false
lacks lefts slash left = false
lacks lefts opens left = false
lacks lefts closes left = false
lacks lefts bad left = false

unfoldable pub unruled : List Symbol → List Lexeme → Option ℕ
unruled lefts [] = none
unruled lefts (x ∷ l) = elim (lacks lefts x.is (before l)) [ true ↦ some x.start | false ↦ unruled lefts l ]

-- 6: "too many: symbols, terminals, expressions", place "1, 2, 3; the lowest"
unfoldable pub too_many : Mode → List Rule → Option Refusal
too_many m rs =
    refuse_if (ltb symbol_bound (length (symbols_of rs))) 6 1
    ▸ refuse_if (ltb terminal_bound (length (terminals_of rs))) 6 2
    ▸ refuse_if (ltb (expression_bound m) (expressions_of rs)) 6 3

-- the rules of a text that 2 lets through; of any other text none
abbrev pub rules_read : Res Rules → List Rule
rules_read (ok g l) = trees g
rules_read (no l) = []
rules_read out = []

unfoldable pub rules_from : List Tok → List Rule
rules_from ts = rules_read (rules_p (5 * length ts) ts)

-- 1 to 6
unfoldable pub refuses_text : Mode → List ℕ → Option Refusal
refuses_text m s =
    let xs : List Lexeme = lexemes m s in
    too_long m s
    ▸ offence (length s) xs (judge m 0 start xs)
    ▸ refuse_at 4 (second m [] xs)
    ▸ refuse_at 5 (unruled (lefts_in xs) xs)
    ▸ too_many m (rules_from (toks_of xs))

-- what is read
unfoldable pub rules_of : Mode → List ℕ → List Rule
rules_of m s = rules_from (toks_of (lexemes m s))
