-- No literal of a text is empty (01, Notation: "an empty literal .. [is a] bad token"). Assumes nothing.
use Rattle.std.specs.Prelude.{ℕ, zero, suc, ◌≡◌, refl, Bool, true, false, List, [], ◌∷◌, eqb, length, drop}
use Rattle.std.proofs.Math.Option.{Option, none, some}
use Rattle.read_tokens.specs.Kinds.{kind_at}
use Rattle.read_tokens.specs.declared.Mode.{Mode}
use Rattle.read_tokens.specs.declared.Mode.TheVariants.{Lake, Plain}
use Rattle.read_tokens.specs.Token.{Leaf, Tok, symbol, leaf, pre, suf, arrow, slash, opens, closes, bad, Token}
use Rattle.read_tokens.specs.Chars.{Body, shut, broken, single, listed, body}
use Rattle.read_tokens.specs.Tokens.{skip, name_span, lake_by, angle, literal_by, some_true, class_marks, class_token, class_by, bracket, by_kind, token_from, token_at, by_end, lexemes_from, lexemes, toks_of, toks}
use Rattle.read_tokens.specs.laws.Tests.{by-test, by_cond}
use Rattle.grammar.specs.Empty.{empty_leaf}
use Rattle.grammar_table.specs.laws.Rows.{All}
use Rattle.read_grammar.specs.laws.Symbols.{leaves}

abbrev pub Full : Leaf → Type 0
Full x = empty_leaf x ≡ false

abbrev pub FullTok : Tok → Type 0
FullTok (symbol h) = Unit {0}
FullTok (leaf x) = Full x
FullTok (pre x) = Unit {0}
FullTok (suf x) = Unit {0}
FullTok arrow = Unit {0}
FullTok slash = Unit {0}
FullTok opens = Unit {0}
FullTok closes = Unit {0}
FullTok bad = Unit {0}

abbrev FullMay : Option Tok → Type 0
FullMay none = Unit {0}
FullMay (some t) = FullTok t

abbrev FullAt : Token → Type 0
FullAt t = FullMay t.is

-- ── the token at a place ──
literal-full : (i : ℕ) (o : Body) → FullAt (literal_by i o)
unfolding literal_by empty_leaf
literal-full i broken = tt
literal-full i (shut [] e) = tt
literal-full i (shut (r ∷ rs) e) = refl

marked-full : (x : Bool) (l : List Bool) (i e : ℕ) → FullAt (class_token x l i e)
unfolding empty_leaf
marked-full true l i e = refl
marked-full false l i e = tt

class-full : (c : Bool) (i : ℕ) (o : Body) → FullAt (class_by c i o)
unfolding class_by
class-full c i broken = tt
class-full c i (shut [] e) = tt
class-full c i (shut (r ∷ rs) e) = marked-full (some_true (class_marks c (r ∷ rs))) (class_marks c (r ∷ rs)) i e

bracket-full : (m : Mode) (i : ℕ) (l : List ℕ) → FullAt (bracket m i l)
unfolding bracket
bracket-full Plain i [] = tt
bracket-full Lake i [] = tt
bracket-full Plain i (b ∷ l) = class-full false i (body 93 listed 0 (suc i) (b ∷ l))
bracket-full Lake i (b ∷ l) =
    by-test FullAt (eqb b 94) _ _ (λ _. class-full true i (body 93 listed 0 (suc (suc i)) l)) (class-full false i (body 93 listed 0 (suc i) (b ∷ l)))

lake-full : (i : ℕ) (w l : List ℕ) → FullAt (lake_by i w l)
lake-full i w [] = tt
lake-full i w (b ∷ l) = by_cond FullAt (eqb b 62) _ _ tt tt

less-full : (m : Mode) (i : ℕ) (l : List ℕ) → FullAt (angle m i l)
unfolding angle
less-full Plain i [] = tt
less-full Lake i [] = tt
less-full Plain i (b ∷ l) = by_cond FullAt (eqb b 45) _ _ tt tt
less-full Lake i (b ∷ l) =
    by-test FullAt (eqb b 45) _ _ (λ _. tt) (
    by-test FullAt (eqb (kind_at b) 2) _ _ (λ _. lake-full i (name_span (b ∷ l)) (drop (length (name_span (b ∷ l))) (b ∷ l))) tt)

kind-full : (k : ℕ) (m : Mode) (b i : ℕ) (l : List ℕ) → FullAt (by_kind k m b i l)
unfolding by_kind empty_leaf
kind-full k m b i l =
    by-test FullAt (eqb k 2) _ _ (λ _. tt) (
    by-test FullAt (eqb k 5) _ _ (λ _. tt) (
    by-test FullAt (eqb k 6) _ _ (λ _. tt) (
    by-test FullAt (eqb k 7) _ _ (λ _. tt) (
    by-test FullAt (eqb k 8) _ _ (λ _. tt) (
    by-test FullAt (eqb k 9) _ _ (λ _. tt) (
    by-test FullAt (eqb k 10) _ _ (λ _. refl) (
    by-test FullAt (eqb k 11) _ _ (λ _. literal-full i (body b single 0 (suc i) l)) (
    by-test FullAt (eqb k 12) _ _ (λ _. bracket-full m i l) (
    by-test FullAt (eqb k 13) _ _ (λ _. less-full m i l) tt)))))))))

from-full : (m : Mode) (i : ℕ) (l : List ℕ) → FullAt (token_from m i l)
unfolding token_from
from-full m i [] = tt
from-full m i (b ∷ l) = kind-full (kind_at b) m b i l

at-full : (m : Mode) (s : List ℕ) (at : ℕ) → FullAt (token_at m s at)
unfolding token_at
at-full m s at = let i = skip false at (drop at s) in from-full m i (drop i s)

-- ── the text ──
from-all-full : (f : ℕ) (m : Mode) (s : List ℕ) (at : ℕ) → All FullTok (toks_of (lexemes_from f m s at))
unfolding lexemes_from toks_of
from-all-full zero m s at = tt
from-all-full (suc f) m s at = by (token_at m s at).is (at-full m s at) (from-all-full f m s (token_at m s at).next)
  where
    by : (o : Option Tok) → FullMay o → All FullTok (toks_of (lexemes_from f m s (token_at m s at).next))
        → All FullTok (toks_of (by_end o (token_at m s at).start (token_at m s at).next (λ n. lexemes_from f m s n)))
    by none e h = tt
    by (some t) e h = (e, h)

pub all-full : (m : Mode) (s : List ℕ) → All FullTok (toks m s)
unfolding toks lexemes
all-full m s = from-all-full (length s) m s 0

pub full-leaves : (l : List Tok) → All FullTok l → All Full (leaves l)
unfolding leaves
full-leaves [] h = tt
full-leaves (symbol x ∷ l) h = full-leaves l h.1
full-leaves (leaf x ∷ l) h = (h.0, full-leaves l h.1)
full-leaves (pre x ∷ l) h = full-leaves l h.1
full-leaves (suf x ∷ l) h = full-leaves l h.1
full-leaves (arrow ∷ l) h = full-leaves l h.1
full-leaves (slash ∷ l) h = full-leaves l h.1
full-leaves (opens ∷ l) h = full-leaves l h.1
full-leaves (closes ∷ l) h = full-leaves l h.1
full-leaves (bad ∷ l) h = full-leaves l h.1
