-- Laws of writing.
use Rattle.std.proofs.Common.{◌≡◌, ℕ, List, [], ◌∷◌, ◌++◌, sym, refl, ap, ◌∙◌}
use Rattle.hearings.specs.declared.writing.Text.{Text}
use Rattle.hearings.specs.Writing.{Page, put, puts, page, Wrote}

pub puts_append : (p : Page) (s t : List ℕ) → puts p (s ++ t) ≡ puts (puts p s) t
unfolding puts
puts_append p [] t = refl
puts_append p (b ∷ s) t = puts_append (put p b) s t

-- one text, and then another
pub wrote_then : {a b c : Text} {s t : List ℕ} → Wrote a s b → Wrote b t c → Wrote a (s ++ t) c
wrote_then {a} {b} {c} {s} {t} f g = record { is = g.is ∙ ap (λ p. puts p t) f.is ∙ sym (puts_append (page a) s t); same = g.same ∙ f.same }

-- the same text under another name
pub wrote_as : {a b : Text} {s t : List ℕ} → s ≡ t → Wrote a s b → Wrote a t b
wrote_as {a} {b} e f = record { is = f.is ∙ ap (puts (page a)) e; same = f.same }

-- the rest of a text, over what stands now, gives what the whole text gives over what stood first
pub record Rest (now : Text) (rest : List ℕ) (first : Text) (whole : List ℕ) : Type 0 where
  pub is : puts (page now) rest ≡ puts (page first) whole
  pub same : now.bytes.ghost_name ≡ first.bytes.ghost_name

pub rest_all : (a : Text) (t : List ℕ) → Rest a t a t
rest_all a t = record { is = refl; same = refl }

-- a part of the rest is written
pub rest_less : {a b first : Text} {s t whole : List ℕ} → Rest a (s ++ t) first whole → Wrote a s b → Rest b t first whole
rest_less {a} {b} {first} {s} {t} r w = record { is = ap (λ p. puts p t) w.is ∙ sym (puts_append (page a) s t) ∙ r.is; same = w.same ∙ r.same }

-- the rest under another name
pub rest_as : {a first : Text} {s t whole : List ℕ} → s ≡ t → Rest a s first whole → Rest a t first whole
rest_as {a} e r = record { is = sym (ap (puts (page a)) e) ∙ r.is; same = r.same }

-- nothing is left
pub rest_none : {a first : Text} {whole : List ℕ} → Rest a [] first whole → Wrote first whole a
unfolding puts
rest_none r = record { is = r.is; same = r.same }
