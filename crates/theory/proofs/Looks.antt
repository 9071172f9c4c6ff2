-- How many looks there are in an interval, where they are at least a window apart.
use Prim.Native.Nat.{ℕ, zero, suc, ◌+◌, ◌*◌, ◌-◌, ◌%◌, ◌/◌, ◌≤◌, ◌<◌}
use native.Mathlib.Omega.{arith}
use native.Mathlib.Nat.{add-zero, add_assoc, div-add-mod, le-div_iff_mul-le, div-lt_iff_lt-mul, lt-div-mul-add, mul-le-mul_left, mul-zero}
use mathlib.Core.Path.{◌≡◌, refl, ap, sym, ◌∙◌, subst}
use mathlib.Core.Bool.{Bool, true, false, cond, true≢false, false≢true}
use lib.Dec.{eqb, leb, ltb}
use borrow.Author.Tests.{leb-true, eqb-true, ltb-true, ltb-false}
use Rattle.model.specs.{Answers.bit, Layout.ceiling, Periods.looks_every}
use Rattle.theory.proofs.Coverage.{looks_in}

-- looks at the n ticks from a on are at least h apart
abbrev pub Spaced : ℕ → (ℕ → Bool) → ℕ → ℕ → Type 0
Spaced h looks a n = (x y : ℕ) → a ≤ x → x < y → y < a + n → looks x ≡ true → looks y ≡ true → x + h ≤ y

-- and there is none at the first g of them
abbrev NoneAtFirst : (ℕ → Bool) → ℕ → ℕ → ℕ → Type 0
NoneAtFirst looks a n g = (j : ℕ) → j < g → j < n → looks (a + j) ≡ false

spaced_count : (h : ℕ) (looks : ℕ → Bool) (a n g : ℕ) → Spaced h looks a n → NoneAtFirst looks a n g → 0 < looks_in looks a n → h * looks_in looks a n + g < n + h
spaced_count h looks a zero g p q = λ l. absurd (omega arith)
spaced_count h looks a (suc n) g p q = go (looks a) refl (spaced_count h looks (a + 1) n)
  where
    rest : Spaced h looks (a + 1) n
    rest x y l m k = p x y (omega arith) m (omega arith)

    -- after a look at a none for h - 1 ticks
    then : looks a ≡ true → NoneAtFirst looks (a + 1) n (h - 1)
    then e j l m = here (looks (a + 1 + j)) refl
      where
        here : (o : Bool) → looks (a + 1 + j) ≡ o → o ≡ false
        here true f = let y = p a (a + 1 + j) (omega arith) (omega arith) (omega arith) e f in absurd (omega arith)
        here false f = refl

    later : NoneAtFirst looks (a + 1) n (g - 1)
    later j l m = subst (λ (x : ℕ). looks x ≡ false) (sym (add_assoc a 1 j)) (q (1 + j) (omega arith) (omega arith))

    first : looks a ≡ true → 0 < g → ⊥
    first e l = true≢false (sym e ∙ ap looks (sym (add-zero a)) ∙ q 0 l (omega arith))

    more : (c : ℕ) → (0 < c → h * c + (h - 1) < n + h) → g ≡ 0 → h * (1 + c) + g < suc n + h
    more zero ih z = omega (arith, mul-zero h)
    more (suc c) ih z = let y = ih (omega arith) in omega arith

    go : (o : Bool) → looks a ≡ o
        → ((i : ℕ) → Spaced h looks (a + 1) n → NoneAtFirst looks (a + 1) n i → 0 < looks_in looks (a + 1) n → h * looks_in looks (a + 1) n + i < n + h)
        → 0 < bit o + looks_in looks (a + 1) n → h * (bit o + looks_in looks (a + 1) n) + g < suc n + h
    go true e ih l = let f = first e in more (looks_in looks (a + 1) n) (ih (h - 1) rest (then e)) (omega arith)
    go false e ih l =
        let z : 0 + looks_in looks (a + 1) n ≡ looks_in looks (a + 1) n = omega arith in
        let y = ih (g - 1) rest later (omega arith) in
        rw z (omega arith)

-- CEILINGS

ceiling_most : (n d c : ℕ) → 0 < d → c * d < n + d → c ≤ ceiling n d
ceiling_most n d c p l = (le-div_iff_mul-le {k = d} {x = c} {y = n + (d - 1)} p).1 (omega arith)

pub ceiling_covers : (n d : ℕ) → 0 < d → n ≤ ceiling n d * d
ceiling_covers n d p = let y = lt-div-mul-add {a = n + (d - 1)} {b = d} p in omega arith

pub ceiling_least : (n d c : ℕ) → 0 < d → n ≤ c * d → ceiling n d ≤ c
ceiling_least n d c p l = let y = (div-lt_iff_lt-mul {k = d} {x = n + (d - 1)} {y = c + 1} p).1 (omega arith) in omega arith

-- at most as many looks as windows, one begun counting whole
pub few_looks : (h : ℕ) (looks : ℕ → Bool) (a n : ℕ) → 0 < h → Spaced h looks a n → looks_in looks a n ≤ ceiling n h
few_looks h looks a n p q = go (looks_in looks a n) (spaced_count h looks a n 0 q (λ j l m. absurd (omega arith)))
  where
    go : (c : ℕ) → (0 < c → h * c + 0 < n + h) → c ≤ ceiling n h
    go zero f = omega arith
    go (suc c) f = let y = f (omega arith) in ceiling_most n h (suc c) p (omega arith)

-- LOOKS EVERY WINDOW

-- neighbouring multiples of h
pub next_multiple : (h u v : ℕ) → u % h ≡ 0 → v % h ≡ 0 → u < v → u + h ≤ v
next_multiple h u v p q l = go (ltb (u / h) (v / h)) refl
  where
    go : (o : Bool) → ltb (u / h) (v / h) ≡ o → u + h ≤ v
    go true e = omega (arith, div-add-mod u h, div-add-mod v h, mul-le-mul_left h (ltb-true (u / h) (v / h) e))
    go false e = absurd (omega (arith, div-add-mod u h, div-add-mod v h, mul-le-mul_left h (ltb-false (u / h) (v / h) e)))

pub every_spaced : (h a b n : ℕ) → Spaced h (looks_every h a) b n
every_spaced h a b n x y l m k e f = go (leb a x) refl (leb a y) refl e f
  where
    apart : a ≤ x → a ≤ y → (x - a) % h ≡ 0 → (y - a) % h ≡ 0 → x + h ≤ y
    apart i j u v = let z = next_multiple h (x - a) (y - a) u v (omega arith) in omega arith

    go : (s : Bool) → leb a x ≡ s → (t : Bool) → leb a y ≡ t → cond s (eqb ((x - a) % h) 0) false ≡ true → cond t (eqb ((y - a) % h) 0) false ≡ true → x + h ≤ y
    go true i true j u v = apart (leb-true a x i) (leb-true a y j) (eqb-true ((x - a) % h) 0 u) (eqb-true ((y - a) % h) 0 v)
    go true i false j u v = absurd (false≢true v)
    go false i t j u v = absurd (false≢true u)
