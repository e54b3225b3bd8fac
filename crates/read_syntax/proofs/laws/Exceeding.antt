-- A token is over its bound exactly if `Exceeds` says so. Assumes nothing.
use Rattle.std.specs.Prelude.{ℕ, ◌≡◌, true, ◌↔◌, length}
use Rattle.std.proofs.lemmas.Bool.{false≢true}
use Rattle.std.proofs.Common.{ltb-true, lt-ltb, leb-true, le-leb}
use Rattle.read_tokens.specs.declared.Mode.{Mode}
use Rattle.read_tokens.specs.Bounds.{name_bound, literal_bound, open_bound}
use Rattle.read_tokens.specs.Token.{Tok, name, lake, any, literal, class, symbol, leaf, pre, suf, arrow, slash, opens, closes, bad}
use Rattle.read_syntax.specs.Machine.{over}
use Rattle.read_syntax.specs.Exceeds.{Exceeds, long-name, long-lake, long-literal, one-too-many}

exceeds : (m : Mode) (d : ℕ) (t : Tok) → over m d t ≡ true → Exceeds m d t
unfolding over
exceeds m d (symbol (name w)) e = long-name (ltb-true (name_bound m) (length w) e)
exceeds m d (symbol (lake w)) e = long-lake (ltb-true (name_bound m) (length w) e)
exceeds m d (leaf any) e = absurd (false≢true e)
exceeds m d (leaf (literal bs)) e = long-literal (ltb-true literal_bound (length bs) e)
exceeds m d (leaf (class k)) e = absurd (false≢true e)
exceeds m d (pre x) e = absurd (false≢true e)
exceeds m d (suf x) e = absurd (false≢true e)
exceeds m d arrow e = absurd (false≢true e)
exceeds m d slash e = absurd (false≢true e)
exceeds m d opens e = one-too-many (leb-true (open_bound m) d e)
exceeds m d closes e = absurd (false≢true e)
exceeds m d bad e = absurd (false≢true e)

exceeding : {m : Mode} {d : ℕ} {t : Tok} → Exceeds m d t → over m d t ≡ true
unfolding over
exceeding {m} (long-name {w = w} h) = lt-ltb (name_bound m) (length w) h
exceeding {m} (long-lake {w = w} h) = lt-ltb (name_bound m) (length w) h
exceeding (long-literal {bs = bs} h) = lt-ltb literal_bound (length bs) h
exceeding {m} {d} (one-too-many h) = le-leb (open_bound m) d h

pub over-exact : (m : Mode) (d : ℕ) (t : Tok) → Exceeds m d t ↔ (over m d t ≡ true)
over-exact m d t = (λ h. exceeding h, exceeds m d t)
