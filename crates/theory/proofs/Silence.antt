-- "A silent controller .. is failed at look v + 2 after it and no sooner": each look takes 1 off the v + 2 that its last beat left.
use Prim.Native.Nat.{ℕ, zero, suc, ◌+◌, ◌-◌}
use native.Mathlib.{Omega.arith, Nat.sub-zero}
use mathlib.Core.Path.{◌≡◌, refl, ap, ◌∙◌}
use mathlib.Core.{Logic.◌↔◌, Bool.true, Bool.false, List.List, List.◌∷◌}
use lib.ListN.{replicate}
use Rattle.model.specs.declared.Entry.{Entry}
use Rattle.model.specs.declared.Event.TheVariants.{Beat, Look}
use Rattle.model.specs.declared.Health.TheVariants.{Failed}
use Rattle.model.specs.Answers.{is_finished, value_at, health_number}
use Rattle.model.specs.Watching.{count_of, told_by, health_of, with_left, told, entry_at, event_reply, status_reply, Call, table_after, own, after_all}
use Rattle.theory.proofs.{WatchRules.live, WatchRules.live_beaten, WatchRules.counting_looked}
use Rattle.theory.proofs.{WatchTables.accepted, WatchTables.status_told, WatchTables.status_after}

looks_left : (k : ℕ) (e : Entry) → e.waiting ≡ false → after_all (replicate k Look) e ≡ with_left (e.left - k) e
looks_left zero e w = rw (w, sub-zero e.left)
looks_left (suc k) e w =
    let l : e.left - 1 - k ≡ e.left - suc k = omega arith in
    ap (after_all (replicate k Look)) (counting_looked e w) ∙ looks_left k (with_left (e.left - 1) e) refl ∙ ap (λ (j : ℕ). with_left j e) l

-- a beat of value v, and k looks
beat_and_looks : (e : Entry) (v k : ℕ) → (health_of e ≡ Failed → ⊥) → after_all (Beat v ∷ replicate k Look) e ≡ with_left (v + 2 - k) e
beat_and_looks e v k f =
    ap (after_all (replicate k Look)) (live_beaten e v (live e f)) ∙ looks_left k (with_left (v + 2) e) refl

-- how an entry is whose own events are these
pub after_silence : (t : List Entry) (cs : List Call) (n v k : ℕ) → is_finished (event_reply t n (Beat v)) ≡ true
    → (value_at 0 (status_reply t n) ≡ health_number Failed → ⊥) → own n cs ≡ Beat v ∷ replicate k Look
    → status_reply (table_after t cs) n ≡ told (with_left (v + 2 - k) (entry_at t n))
after_silence t cs n v k finishes well mine =
    let e = entry_at t n in
    let a = accepted t n (Beat v) finishes in
    let f : health_of e ≡ Failed → ⊥ = λ h. well (ap (value_at 0) (status_told t n a.0) ∙ ap health_number h) in
    status_after t cs n (with_left (v + 2 - k) e) a.0 (rw mine (beat_and_looks e v k f))

-- failed is where nothing is left
pub none_left : (l : ℕ) → (health_number (told_by (count_of l)) ≡ health_number Failed) ↔ (l ≡ 0)
none_left zero = (λ e. refl, λ e. refl)
none_left (suc zero) = (λ e. absurd (omega arith), λ e. absurd (omega arith))
none_left (suc (suc l)) = (λ e. absurd (omega arith), λ e. absurd (omega arith))
