-- What an answer after tests says of them.
use Rattle.std.proofs.Common.{◌≡◌, ℕ, ◌<◌, Bool, true, false, cond, ltb, is_ok, Ok, Err, Result, refl, ap}
use Rattle.std.proofs.lemmas.Bool.{true≢false, ltb-true}
use Rattle.fault.specs.declared.Fault.{Fault}
use Rattle.fault.specs.declared.Fault.TheVariants.{Place, Letter}

pub not_ok : {X : Type 0} (f : Fault) (x : X) → ◌≡◌ {A = Result X Fault} (Ok x) (Err f) → ⊥
not_ok f x e = true≢false (ap is_ok e)

-- answered, the test was passed
pub passes : {X : Type 0} (b : Bool) (r : Result X Fault) (f : Fault) (x : X) → Ok x ≡ cond b r (Err f) → (b ≡ true) × (Ok x ≡ r)
passes true r f x e = (refl, e)
passes false r f x e = absurd (not_ok f x e)

-- the tests of a place and a letter
pub place_passes : (p n : ℕ) (u : Unit {0}) → Ok u ≡ cond (ltb p n) (Ok tt) (Err Place) → p < n
place_passes p n u e = ltb-true p n (passes (ltb p n) (Ok tt) Place u e).0

pub letter_passes : (p n l q : ℕ) (u : Unit {0}) → Ok u ≡ cond (ltb p n) (cond (ltb l q) (Ok tt) (Err Letter)) (Err Place) → (p < n) × (l < q)
letter_passes p n l q u e =
    let a = passes (ltb p n) (cond (ltb l q) (Ok tt) (Err Letter)) Place u e in
    (ltb-true p n a.0, ltb-true l q (passes (ltb l q) (Ok tt) Letter u a.1).0)
