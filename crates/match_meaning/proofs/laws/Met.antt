-- The rules can be met: derivations of cases of 01 (Cases: `a <- 'x' <y>`), of a lake with water, of one that must stop, and of the empty rounds.
-- Assumes nothing.
use Rattle.std.specs.Prelude.{ℕ, zero, suc, refl, List, [], ◌∷◌}
use Rattle.std.proofs.Math.Option.{some, none}
use Rattle.std.proofs.Common.{arith}
use Rattle.read_tokens.specs.Token.{any, literal}
use Rattle.grammar.specs.Exp.{Exp, sym, ter, seq, opt, star, plus}
use Rattle.match_meaning.specs.Meaning.{Meant, nd, SymbolBody, rule, lake, Here, any-takes, lit-takes, lit-fails, sym-takes, sym-fails, seq-fails-later, seq-takes, star-idles, plus-takes, opt-skips, opt-takes, by-rule, by-water, by-skip, stopped, at-end, own-none, dry, wet-is, none_of, this-one, Derives}

-- ── `a <- 'x' <y>` ──
abbrev bodies : List (Exp ℕ) → ℕ → SymbolBody
bodies ss zero = rule (seq (ter (literal (120 ∷ []))) (sym 1))
bodies ss (suc r) = lake none ss

abbrev xy : Meant
xy = record { body = bodies []; water = none }

x-first : (k : Meant) (s : List ℕ) → Derives k (120 ∷ s) 1 (ter (literal (120 ∷ []))) 0 2 []
x-first k s = lit-takes {p = 0} {bs = 120 ∷ []} (omega arith, refl, tt)

-- on `xz`: match 2, the lake skips `z`
skips-z : Derives xy (120 ∷ 122 ∷ []) 1 (sym 1) 1 2 (nd 1 1 2 1 ∷ [])
skips-z = sym-takes {r = 1} {m = 1} (by-skip {p = 1} own-none (dry {p = 1}) none_of (omega arith))

pub skips : Derives xy (120 ∷ 122 ∷ []) 0 (sym 0) 0 3 (nd 0 0 2 0 ∷ nd 1 1 2 1 ∷ [])
skips = sym-takes {r = 0} {m = 2} (by-rule (seq-takes {m = 1} {k = 1} (x-first xy (122 ∷ [])) skips-z))

-- on `x` there is no match: at the text's end there is neither a rule of `<y>` nor water, and no byte (02, §4)
no-y : Derives xy (120 ∷ []) 1 (sym 1) 1 0 []
no-y = sym-fails {r = 1} (at-end {p = 1} own-none (dry {p = 1}) none_of (omega arith))

pub at-the-end : Derives xy (120 ∷ []) 0 (sym 0) 0 0 []
at-the-end = sym-fails {r = 0} (by-rule (seq-fails-later {m = 1} (x-first xy []) no-y))

-- with `water <- '#' .` the lake takes `#z`, and there is no node for water
abbrev watered : Meant
watered = record { body = bodies []; water = some (seq (ter (literal (35 ∷ []))) (ter any)) }

hash : Derives watered (120 ∷ 35 ∷ 122 ∷ []) 2 (ter (literal (35 ∷ []))) 1 2 []
hash = lit-takes {p = 1} {bs = 35 ∷ []} (omega arith, refl, tt)

wet-y : Derives watered (120 ∷ 35 ∷ 122 ∷ []) 1 (sym 1) 1 3 (nd 1 1 3 1 ∷ [])
wet-y = sym-takes {r = 1} {m = 2} (by-water own-none (wet-is (seq-takes {m = 1} {k = 1} hash (any-takes {p = 2} (omega arith)))))

pub wets : Derives watered (120 ∷ 35 ∷ 122 ∷ []) 0 (sym 0) 0 4 (nd 0 0 3 0 ∷ nd 1 1 3 1 ∷ [])
wets = sym-takes {r = 0} {m = 3} (by-rule (seq-takes {m = 1} {k = 2} (x-first watered (35 ∷ 122 ∷ [])) wet-y))

-- with `z` as alternative symbol the lake must not skip `z`
abbrev stopping : Meant
stopping = record { body = bodies (ter (literal (122 ∷ [])) ∷ []); water = none }

pub stops : Derives stopping (122 ∷ []) 0 (sym 1) 0 0 []
stops = sym-fails {r = 1} (stopped own-none (dry {p = 0}) (this-one {m = 1} (lit-takes {p = 0} {bs = 122 ∷ []} (omega arith, refl, tt))))

-- ── on the empty text, with `b <- 'x'?`: "that round is dropped with its nodes, but the first round of `+` counts"; `?` is no repeat ──
abbrev maybe : Meant
maybe = record { body = λ (r : ℕ). rule (opt (ter (literal (120 ∷ [])))); water = none }

not-x : Here [] 0 (120 ∷ []) → ⊥
not-x h = omega (arith, h.0)

empty-b : Derives maybe [] 1 (sym 0) 0 1 (nd 0 0 0 1 ∷ [])
empty-b = sym-takes {r = 0} {m = 0} (by-rule (opt-skips (lit-fails {p = 0} {bs = 120 ∷ []} not-x)))

pub star-drops : Derives maybe [] 1 (star (sym 0)) 0 1 []
star-drops = star-idles empty-b

pub plus-counts : Derives maybe [] 1 (plus (sym 0)) 0 1 (nd 0 0 0 1 ∷ [])
plus-counts = plus-takes {m = 0} {k = 0} empty-b star-drops

pub opt-keeps : Derives maybe [] 1 (opt (sym 0)) 0 1 (nd 0 0 0 1 ∷ [])
opt-keeps = opt-takes {m = 0} empty-b
