use Rattle.std.proofs.Common.{ℕ, zero, suc, ◌≡◌, refl, sym, ap, ◌∙◌, drop, Option, unwrap_or}
use Rattle.read_tokens.specs.declared.chars.Char as declared
use Rattle.read_tokens.specs.Chars.{char}
use Rattle.read_tokens.specs.steps.Code.{char_by}
use Rattle.read_entries.proofs.Steps.{bare}
use Rattle.read_entries.proofs.leaves.char_here.Goals as goal

abbrev nothing : declared.Char
nothing = record { byte = 0; width = 0 }

here : (b w : ℕ) → (w ≡ 0 → b ≡ 0) → ((unwrap_or (char_by b w) nothing).byte ≡ b) × ((unwrap_or (char_by b w) nothing).width ≡ w)
here b zero f = (sym (f refl), refl)
here b (suc n) f = (refl, refl)

pub returns : goal.returns
returns c =
    let l = drop c.args.at c.args.text.now in
    let e : c.unwrap_or.result ≡ unwrap_or (char_by (char l).byte (char l).width) nothing =
    c.unwrap_or.ensures ∙ ap (λ (o : Option declared.Char). unwrap_or o nothing) c.char_at.ensures in
    let h = here (char l).byte (char l).width (bare l) in
    (ap (λ (x : declared.Char). x.byte) e ∙ h.0, ap (λ (x : declared.Char). x.width) e ∙ h.1)
