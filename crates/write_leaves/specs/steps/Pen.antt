-- Writing bytes into lent room one after the other, or only counting them. Assumes nothing: these are definitions.
use Rattle.std.specs.Prelude.{ℕ, suc, ◌+◌, min, ◌≡◌, Bool, true, false, cond, leb, List, [], ◌∷◌, length, set}
use Rattle.write_leaves.specs.declared.bytes.Pen.{Pen}

-- no room is as long as this: counts stop here
abbrev pub most : ℕ
most = 9223372036854775808

-- the room after the bytes have been written from `at` on; past its end nothing is stored. Without the flag nothing is written
unfoldable pub inked : Bool → List ℕ → List ℕ → ℕ → List ℕ
inked w [] out at = out
inked true (b ∷ bs) out at = inked true bs (set out at b) (suc at)
inked false (b ∷ bs) out at = inked false bs out (suc at)

-- bytes written from `at` on: the room, and the place behind them
pub record Penned (w : Bool) (bytes old : List ℕ) (at : ℕ) (new : List ℕ) (r : ℕ) : Type 0 where
  pub room : new ≡ inked w bytes old at
  pub place : r ≡ min most (at + length bytes)

-- a pen whose room has become `out`, at another place of it
abbrev pub moved : Pen → List ℕ → ℕ → Pen
moved p out at = record { out = record p.out { now = out }; at = at }

-- a pen after one byte
abbrev pub after_one : Pen → ℕ → Pen
after_one p b = moved p (set p.out.now p.at b) (cond (leb most p.at) p.at (p.at + 1))

-- a pen after bytes one behind the other. From the front of room it leaves what Penned says, over no room what Penned says without the flag: see laws/Pen
unfoldable pub after : Pen → List ℕ → Pen
after p [] = p
after p (b ∷ bs) = after (after_one p b) bs
