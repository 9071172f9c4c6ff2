-- The paper's number and values tell the cases of each answer apart: each answer can be read back from them.
use Prim.Native.Nat.{ℕ}
use mathlib.Core.Path.{◌≡◌, refl, ap, ap₂, sym, ◌∙◌}
use mathlib.Core.Bool.{Bool, true, false, cond}
use mathlib.Core.List.{List, [], ◌∷◌}
use lib.{Dec.eqb, ListN.length, ListN.get_or}
use Rattle.std.specs.Prelude.{Option, None, Some, Result, Ok, Err}
use Rattle.model.specs.declared.{Refusal.Refusal, Equalised.Equalised, LaidOut.LaidOut, Ran.Ran, Stopped.Stopped}
use Rattle.model.specs.declared.{Rehearsed.Rehearsed, TakenUp.TakenUp, Health.Health, Watched.Watched}
use Rattle.model.specs.Answers.{Verdict, finished, refused, bit, refusal, answered, timed, equalised, laid_out, ran, stopped, health_number, watched}
use Rattle.model.specs.Answers.{taken_up_values, rehearsed}

-- a function that can be undone is injective
undone : {A : Type 0} (f : A → Verdict) (g : Verdict → A) → ((a : A) → g (f a) ≡ a) → (a b : A) → f a ≡ f b → a ≡ b
undone f g back a b e = sym (back a) ∙ ap g e ∙ back b

-- an answer with a finished case, read back by done
read_back : {A : Type 0} → (List ℕ → A) → (Refusal → A) → Verdict → A
read_back done turned (finished xs) = done xs
read_back done turned (refused n xs) =
    let i = get_or xs 0 0 in
    turned
    (cond (eqb n 1) (Refusal.BadLength i)
    (cond (eqb n 2) (Refusal.BadKind i)
    (cond (eqb n 3) (Refusal.BadField i)
    (cond (eqb n 4) (Refusal.BadStructure i)
    (cond (eqb n 5) (Refusal.TooDeep i)
    (cond (eqb n 6) Refusal.BadSettings
    (cond (eqb n 7) Refusal.ShortWindow
    (cond (eqb n 8) Refusal.OverPeriod
    (cond (eqb n 9) Refusal.NoRoom
    (cond (eqb n 10) Refusal.BadBuffers
    (cond (eqb n 11) Refusal.BadImage
    (cond (eqb n 12) Refusal.LateStop
    Refusal.BadEntry))))))))))))

turned_back : {A : Type 0} (done : List ℕ → A) (turned : Refusal → A) (r : Refusal) → read_back done turned (refusal r) ≡ turned r
unfolding read_back
turned_back done turned (Refusal.BadLength n) = refl
turned_back done turned (Refusal.BadKind i) = refl
turned_back done turned (Refusal.BadField i) = refl
turned_back done turned (Refusal.BadStructure i) = refl
turned_back done turned (Refusal.TooDeep i) = refl
turned_back done turned Refusal.BadSettings = refl
turned_back done turned Refusal.ShortWindow = refl
turned_back done turned Refusal.OverPeriod = refl
turned_back done turned Refusal.NoRoom = refl
turned_back done turned Refusal.BadBuffers = refl
turned_back done turned Refusal.BadImage = refl
turned_back done turned Refusal.LateStop = refl
turned_back done turned Refusal.BadEntry = refl

pub bit_back : (b : Bool) → eqb (bit b) 1 ≡ b
bit_back true = refl
bit_back false = refl

pub refusal_injective : (a b : Refusal) → refusal a ≡ refusal b → a ≡ b
refusal_injective = undone refusal (read_back (λ xs. Refusal.BadSettings) (λ r. r)) (turned_back (λ xs. Refusal.BadSettings) (λ r. r))

-- an answer whose values can be read back
answered_injective : {A : Type 0} (values : A → List ℕ) (done : List ℕ → A) → ((x : A) → done (values x) ≡ x)
    → (a b : Result A Refusal) → answered values a ≡ answered values b → a ≡ b
unfolding read_back
answered_injective {A} values done again = undone (answered values) (read_back ok Err) back
  where
    ok : List ℕ → Result A Refusal
    ok xs = Ok (done xs)

    back : (a : Result A Refusal) → read_back ok Err (answered values a) ≡ a
    back (Ok x) = ap Ok (again x)
    back (Err r) = turned_back ok Err r

pub timed_injective : (a b : Result ℕ Refusal) → timed a ≡ timed b → a ≡ b
timed_injective = answered_injective (λ t. t ∷ []) (λ xs. get_or xs 0 0) (λ t. refl)

pub equalised_injective : (a b : Result Equalised Refusal) → equalised a ≡ equalised b → a ≡ b
equalised_injective =
    answered_injective (λ x. x.bytes ∷ x.time ∷ []) (λ xs. record { bytes = get_or xs 0 0; time = get_or xs 1 0 }) (λ x. refl)

pub laid_out_injective : (a b : Result LaidOut Refusal) → laid_out a ≡ laid_out b → a ≡ b
laid_out_injective =
    answered_injective (λ x. x.bytes ∷ x.total ∷ []) (λ xs. record { bytes = get_or xs 0 0; total = get_or xs 1 0 }) (λ x. refl)

pub ran_injective : (a b : Result Ran Refusal) → ran a ≡ ran b → a ≡ b
ran_injective =
    answered_injective (λ x. x.tick ∷ bit x.overran ∷ []) (λ xs. record { tick = get_or xs 0 0; overran = eqb (get_or xs 1 0) 1 })
    (λ x. ap (λ (o : Bool). let r : Ran = record { tick = x.tick; overran = o } in r) (bit_back x.overran))

pub stopped_injective : (a b : Result Stopped Refusal) → stopped a ≡ stopped b → a ≡ b
stopped_injective =
    answered_injective (λ x. x.tick ∷ 0 ∷ bit x.saved ∷ []) (λ xs. record { tick = get_or xs 0 0; saved = eqb (get_or xs 2 0) 1 })
    (λ x. ap (λ (m : Bool). let r : Stopped = record { tick = x.tick; saved = m } in r) (bit_back x.saved))

health_from : ℕ → Health
health_from n = cond (eqb n 0) Health.Waiting (cond (eqb n 1) Health.Well (cond (eqb n 2) Health.Suspect Health.Failed))

health_back : (h : Health) → health_from (health_number h) ≡ h
unfolding health_from
health_back Health.Waiting = refl
health_back Health.Well = refl
health_back Health.Suspect = refl
health_back Health.Failed = refl

pub watched_injective : (a b : Result Watched Refusal) → watched a ≡ watched b → a ≡ b
watched_injective =
    answered_injective (λ x. health_number x.health ∷ x.left ∷ [])
    (λ xs. record { health = health_from (get_or xs 0 0); left = get_or xs 1 0 })
    (λ x. ap (λ (h : Health). let r : Watched = record { health = h; left = x.left } in r) (health_back x.health))

taken : ℕ → Option ℕ → ℕ → TakenUp
taken c i x = record { stop = c; image = i; twice = x }

-- how it was taken up, where there are more values than four
taken_up_from : List ℕ → Option TakenUp
taken_up_from xs =
    cond (eqb (length xs) 4) None (Some (taken (get_or xs 4 0) (cond (eqb (get_or xs 5 0) 1) (Some (get_or xs 6 0)) None) (get_or xs 7 0)))

taken_up_back : (a n t e c x : ℕ) (i : Option ℕ) → taken_up_from (a ∷ n ∷ t ∷ e ∷ taken_up_values (Some (taken c i x))) ≡ Some (taken c i x)
unfolding taken taken_up_from
taken_up_back a n t e c x None = refl
taken_up_back a n t e c x (Some m) = refl

pub rehearsed_injective : (a b : Result Rehearsed Refusal) → rehearsed a ≡ rehearsed b → a ≡ b
unfolding taken taken_up_from
rehearsed_injective =
    answered_injective (λ x. bit x.alike ∷ x.bytes ∷ x.total ∷ x.end ∷ taken_up_values x.taken_up)
    (λ xs. of (eqb (get_or xs 0 0) 1) (get_or xs 1 0) (get_or xs 2 0) (get_or xs 3 0) (taken_up_from xs))
    (λ x. again x.alike x.bytes x.total x.end x.taken_up)
  where
    of : Bool → ℕ → ℕ → ℕ → Option TakenUp → Rehearsed
    of a n t e u = record { alike = a; bytes = n; total = t; end = e; taken_up = u }

    again : (a : Bool) (n t e : ℕ) (u : Option TakenUp)
        → of (eqb (bit a) 1) n t e (taken_up_from (bit a ∷ n ∷ t ∷ e ∷ taken_up_values u)) ≡ of a n t e u
    again a n t e None = ap (λ (o : Bool). of o n t e None) (bit_back a)
    again a n t e (Some u) =
        ap₂ (λ (o : Bool) (v : Option TakenUp). of o n t e v) (bit_back a) (taken_up_back (bit a) n t e u.stop u.twice u.image)
