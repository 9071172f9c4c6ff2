-- W-202: which settings are taken, that the wide form holds each number, and that equal numbers are judged alike.
use Prim.Native.Nat.{ℕ, zero, suc, ◌+◌, ◌*◌, ◌/◌, ◌%◌, ◌^◌, ◌≤◌, ◌<◌}
use native.Mathlib.Omega.{arith}
use mathlib.Core.Path.{◌≡◌, refl, ap, sym, ◌∙◌}
use mathlib.Core.{Logic.◌↔◌, Logic.inl, Logic.inr, Logic.⊎_elim}
use mathlib.Core.Bool.{Bool, true, false, not}
use mathlib.Core.List.{List, [], ◌∷◌}
use lib.{Dec.eqb, Dec.leb, ListN.length, ListN.get_or, ListN.take, Seq.take_all, Seq.length-take-le, Seq.get_or-take}
use borrow.Author.Tests.{eqb-true, ne_eqb, not-false, le-ltb, leb-true, leb-false}
use Rattle.model.specs.{Limits.most_ticks, Limits.most_multiply, Limits.narrow_length, Limits.wide_length, Placement.Positive}
use Rattle.model.specs.declared.Settings.{Settings}
use Rattle.model.specs.Records.{Bytes}
use Rattle.model.specs.Settings.{narrow_settings, wide_settings, settings_of, out_of_range, bad_settings_length, bad_settings, wide_bytes}
use Rattle.laws.proofs.{Bytes.word_back, Shapes.neither, Shapes.and_false}
use Rattle.theory.specs.Widened.{Formed, Good, FitsNarrow, FitsWide, EqualNumbers, Alike, Widened}
use Rattle.theory.proofs.{Accepted.in_range, SameCalls.same_calls}

-- EITHER FORM

pub is_narrow : (s : List ℕ) → length s ≡ narrow_length → settings_of s ≡ narrow_settings s
unfolding settings_of
is_narrow s twelve = rw twelve

pub is_wide : (s : List ℕ) → length s ≡ wide_length → settings_of s ≡ wide_settings s
unfolding settings_of
is_wide s long = rw long

-- of settings that are formed well, the numbers decide
by_numbers : (s : List ℕ) → Formed s → bad_settings s ≡ out_of_range (settings_of s)
unfolding bad_settings
by_numbers s (inl twelve) = rw twelve
by_numbers s (inr long) = rw long

formed : (s : List ℕ) → bad_settings_length (length s) ≡ false → Formed s
formed s a =
    ⊎_elim (λ e. inl (eqb-true (length s) narrow_length (not-false _ e))) (λ e. inr (eqb-true (length s) wide_length (not-false _ e)))
    (and_false (not (eqb (length s) narrow_length)) (not (eqb (length s) wide_length)) a)

-- WHICH ARE TAKEN

good_numbers : (s : List ℕ) → bad_settings s ≡ false → Formed s
unfolding bad_settings
good_numbers s e = formed s (neither (bad_settings_length (length s)) (out_of_range (settings_of s)) e).0

in_limits : (σ : Settings) → Positive σ → 1 ≤ σ.period → σ.window ≤ most_ticks → σ.period ≤ most_ticks → σ.multiply ≤ most_multiply
    → out_of_range σ ≡ false
in_limits σ P l w p m =
    rw (
      lasts P.set_lasts,
      lasts P.read_lasts,
      lasts P.write_lasts,
      lasts P.beat_lasts,
      lasts P.save_lasts,
      lasts P.multiply_lasts,
      lasts P.spaced,
      lasts P.window_lasts,
      lasts l,
      le-ltb most_ticks σ.window w,
      le-ltb most_ticks σ.period p,
      le-ltb most_multiply σ.multiply m,
    )
  where
    lasts : {n : ℕ} → 1 ≤ n → eqb n 0 ≡ false
    lasts {n} h = ne_eqb n 0 (λ e. omega arith)

good : (s : List ℕ) → (bad_settings s ≡ false) ↔ Good s
good s = (there, back)
  where
    there : bad_settings s ≡ false → Good s
    there e =
        let I = in_range s e in
        record {
          formed = good_numbers s e;
          positive = I.positive;
          period_lasts = I.lasts;
          window_limit = omega (arith, I.narrow);
          period_limit = I.short;
          multiply_limit = I.multiply_limit;
        }

    back : Good s → bad_settings s ≡ false
    back G =
        by_numbers s G.formed
        ∙ in_limits (settings_of s) G.positive G.period_lasts G.window_limit G.period_limit G.multiply_limit

-- THE WIDE FORM

half_back : (n : ℕ) → n % 256 + 256 * (n / 256) ≡ n
half_back n = omega arith

numbers_back : (σ : Settings) → settings_of (wide_bytes σ) ≡ σ
unfolding settings_of wide_bytes
numbers_back σ =
    rw (
      half_back σ.set,
      half_back σ.read,
      half_back σ.write,
      half_back σ.beat,
      half_back σ.save,
      half_back σ.spacing,
      word_back σ.window,
      word_back σ.period,
      word_back σ.multiply,
    )

wide_formed : (σ : Settings) → length (wide_bytes σ) ≡ wide_length
unfolding wide_bytes
wide_formed σ = refl

-- BYTES

-- each is one, from the first on
abbrev Small : List ℕ → Type 0
Small [] = Unit {0}
Small (n ∷ s) = (n < 256) × Small s

small_bytes : (s : List ℕ) → Small s → Bytes s
small_bytes [] h i = omega arith
small_bytes (n ∷ s) h zero = h.0
small_bytes (n ∷ s) h (suc i) = small_bytes s h.1 i

half_small : (n : ℕ) {A : Type 0} → n ≤ 65535 → A → (n % 256 < 256) × ((n / 256 < 256) × A)
half_small n h k = (omega arith, (omega arith, k))

word_small : (n : ℕ) {A : Type 0} → n < 2 ^ 32 → A
    → (n % 256 < 256) × ((n / 256 % 256 < 256) × ((n / 256 / 256 % 256 < 256) × ((n / 256 / 256 / 256 < 256) × A)))
word_small n h k = (omega arith, (omega arith, (omega arith, (omega arith, k))))

wide_bytes_is : (σ : Settings) → FitsWide σ → Bytes (wide_bytes σ)
unfolding wide_bytes
wide_bytes_is σ F =
    small_bytes (wide_bytes σ)
    (half_small σ.set F.set_fits
    (half_small σ.read F.read_fits
    (half_small σ.write F.write_fits
    (half_small σ.beat F.beat_fits
    (half_small σ.save F.save_fits
    (half_small σ.spacing F.spacing_fits
    (word_small σ.window F.window_fits
    (word_small σ.period F.period_fits
    (word_small σ.multiply F.multiply_fits tt)))))))))

-- what bytes hold
fits : (s : List ℕ) → Bytes s → Formed s → FitsWide (settings_of s)
fits s b (inl twelve) = rw (is_narrow s twelve) (record {
  set_fits = omega (arith, b 0);
  read_fits = omega (arith, b 1);
  write_fits = omega (arith, b 2);
  beat_fits = omega (arith, b 3);
  save_fits = omega (arith, b 4);
  spacing_fits = omega (arith, b 5);
  window_fits = omega (arith, b 6, b 7);
  period_fits = omega (arith, b 8, b 9, b 10, b 11);
  multiply_fits = omega (arith, b 0);
})
fits s b (inr long) = rw (is_wide s long) (record {
  set_fits = omega (arith, b 0, b 1);
  read_fits = omega (arith, b 2, b 3);
  write_fits = omega (arith, b 4, b 5);
  beat_fits = omega (arith, b 6, b 7);
  save_fits = omega (arith, b 8, b 9);
  spacing_fits = omega (arith, b 10, b 11);
  window_fits = omega (arith, b 12, b 13, b 14, b 15);
  period_fits = omega (arith, b 16, b 17, b 18, b 19);
  multiply_fits = omega (arith, b 20, b 21, b 22, b 23);
})

narrow_fits : (s : List ℕ) → Bytes s → length s ≡ 12 → FitsNarrow (settings_of s)
narrow_fits s b twelve = rw (is_narrow s twelve) (record {
  set_fits = omega (arith, b 0);
  read_fits = omega (arith, b 1);
  write_fits = omega (arith, b 2);
  beat_fits = omega (arith, b 3);
  save_fits = omega (arith, b 4);
  spacing_fits = omega (arith, b 5);
  window_fits = omega (arith, b 6, b 7);
  one_time = refl;
})

-- ALIKE

equal_settings : (s t : List ℕ) → Formed s → Formed t → settings_of s ≡ settings_of t → Alike s t
equal_settings s t f g e = record { judged = by_numbers s f ∙ ap out_of_range e ∙ sym (by_numbers t g); numbers = e }

equal_numbers : (s t : List ℕ) → EqualNumbers s t → Alike s t
equal_numbers s t E =
    equal_settings s t (inl E.old) (inr E.new)
    (rw
    (is_narrow s E.old, is_wide t E.new, ← E.multiply, E.set, E.read, E.write, E.beat, E.save, E.spacing, E.window, E.period))

widens : (s : List ℕ) → length s ≡ narrow_length → Alike s (wide_bytes (settings_of s))
widens s twelve = equal_settings s (wide_bytes (settings_of s)) (inl twelve) (inr (wide_formed (settings_of s))) (sym (numbers_back (settings_of s)))

-- a file of more than 24 bytes is no settings, however much of it is read
too_long : (s t : List ℕ) → 25 ≤ length s → 25 ≤ length t → narrow_settings s ≡ narrow_settings t → Alike s t
unfolding bad_settings settings_of
too_long s t l m e =
    let a = ne_eqb (length s) narrow_length (λ q. omega arith) in
    let b = ne_eqb (length s) wide_length (λ q. omega arith) in
    let c = ne_eqb (length t) narrow_length (λ q. omega arith) in
    let d = ne_eqb (length t) wide_length (λ q. omega arith) in
    record { judged = rw (a, b, c, d); numbers = rw (b, d) e }

enough : (s : List ℕ) (n : ℕ) → 25 ≤ n → Alike (take n s) s
enough s n h = go (leb (length s) n) refl
  where
    there : (i : ℕ) → i < n → get_or (take n s) i 0 ≡ get_or s i 0
    there i l = get_or-take n s i 0 l

    go : (b : Bool) → leb (length s) n ≡ b → Alike (take n s) s
    go true e = let w = take_all n s (leb-true (length s) n e) in record { judged = ap bad_settings w; numbers = ap settings_of w }
    go false e =
        let l = leb-false (length s) n e in
        let k = length-take-le n s (omega arith) in
        too_long (take n s) s (omega arith) (omega arith)
        (rw (
          there 0 (omega arith),
          there 1 (omega arith),
          there 2 (omega arith),
          there 3 (omega arith),
          there 4 (omega arith),
          there 5 (omega arith),
          there 6 (omega arith),
          there 7 (omega arith),
          there 8 (omega arith),
          there 9 (omega arith),
          there 10 (omega arith),
          there 11 (omega arith),
        ))

pub widened : Widened
widened = record {
  good = good;
  fits = fits;
  narrow_fits = narrow_fits;
  holds = λ σ F. record { bytes = wide_bytes_is σ F; formed = wide_formed σ; numbers = numbers_back σ };
  equal_numbers = equal_numbers;
  equal_settings = equal_settings;
  same = same_calls;
  widens = widens;
  enough = enough;
}
