-- Writing an IF: its test, and then both sides, filled up to the tick where they meet, which stands in the table.
use Prim.Native.Nat.{ℕ, ◌+◌, ◌*◌, ◌≤◌, ◌<◌, max}
use native.Mathlib.Omega.{arith}
use mathlib.Core.Path.{◌≡◌, refl, ap, sym, subst, ◌∙◌}
use mathlib.Core.List.{List, ◌∷◌, ◌++◌, append_assoc}
use lib.ListN.{length, get_or, length-append}
use Rattle.model.specs.declared.Form.TheVariants.{Equalised}
use Rattle.model.specs.declared.Settings.{Settings}
use Rattle.model.specs.Records.{Rec, record_bytes, kind_at, record_at, IF, over}
use Rattle.model.specs.Trees.{Test, check, Block, nil, act, branch, ◌⧺◌, size, test_rec, else_rec, end_rec}
use Rattle.model.specs.{Times.time, Equalising.waiting, Equalising.merge, Layout.before, Layout.filled}
use Rattle.model.specs.Standing.{At}
use Rattle.records.specs.Blocks.{block_bytes, skip_records, skip_bytes}
use Rattle.records.proofs.Blocks.{waiting_bytes, branch_bytes_is, size_waiting, length_block}
use Rattle.records.proofs.Over.{Part, lent, back, part_first, part_fits, part_fits_last, part_lent, part_last, part_at, part_length}
use Rattle.reading.specs.Closing.{opens_block}
use Rattle.reading.specs.Ranges.{InFile, first_part, second_part, after_first, test_of}
use Rattle.placing.specs.declared.clock.State.{State}
use Rattle.layout.specs.declared.measure.Passage.{Passage}
use Rattle.placing.specs.{Merging.settled, Merging.waits, States.cap, States.back_to}
use Rattle.layout.specs.{Measured.laid, Measured.Met, Measured.Statement, Meetings.meetings, Meetings.Holds}
use Rattle.placing.specs.Placed.{bytes_of, step_bytes, StepLaid}
use Rattle.layout.specs.Written.{LaidFits, SideFits, SideLays, SideLaid, StatementFits, StatementLaid}
use Rattle.placing.proofs.{Settling.size_settled, Settling.bytes_settled, Writing.laid_bytes}
use Rattle.reading.proofs.Walking.{first_in_is, if_at, second_in}
use Rattle.layout.proofs.Noting.{holds_first, holds_rest, holds_left, holds_right}
use Rattle.layout.proofs.{Unrolled.laid_branch, Unrolled.filled_ends, PassingSteps.laid_as, PassingSteps.block}
use Rattle.layout.proofs.PassingBranches.{branch_after, Tested, sides, one, two, tested, test_wait, end, whole, branch_as, first_free, second_free, end_free}
use Rattle.layout.proofs.PassingBranches.{whole_meetings, not_before, ready, ready_again}
use Rattle.layout.proofs.WritingSteps.{fits_as, holds_as, answered_as}

-- the IF at i with the record x
module _ {s : List ℕ} {i to : ℕ} {σ : Settings} {from : State} {p : ℕ} {table old : List ℕ} (F : StatementFits s i to σ from p table old) (k : kind_at s i ≡ IF)
    {x : Rec} (e : x ≡ record_at s i) where
  abbrev S : Statement s i to σ from
  S = F.statement

  abbrev q : Test
  q = test_of (record_at s i)

  abbrev lead : Block
  lead = before σ from.tick 1

  abbrev w : ℕ
  w = waits from.wait lead

  is_test : x ≡ test_rec IF q 0
  is_test = e ∙ (subst (λ (b : Block). At s i b) (if_at S.here k).is S.here.file.stands.fills.stands).0.is

  -- SIZES

  test_length : length (step_bytes σ from 1 x) ≡ 12 * (size (settled from.wait lead) + skip_records w + 1)
  test_length =
      omega (
        arith,
        length-append (bytes_of from lead) (skip_bytes w ++ record_bytes x),
        length-append (skip_bytes w) (record_bytes x),
        length_block (settled from.wait lead),
        length_block (waiting w nil),
      )

  branch_size : (a d : Block) → size (settled from.wait (lead ⧺ branch q a d nil)) ≡ size (settled from.wait lead) + skip_records w + (3 + size (merge 0 a) + size (merge 0 d))
  branch_size a d = omega (arith, size_settled from.wait lead (branch q a d nil), size_waiting w (branch q (merge 0 a) (merge 0 d) nil))

  pub test_fits : length (step_bytes σ from 1 x) ≤ length old
  test_fits =
      let u = from.tick + time σ lead + 1 in
      let a = laid σ (first_part (block S)) u in
      let d = laid σ (second_part (block S)) u in
      let m = u + max (time σ a) (time σ d) in
      let f = filled σ u a m in
      let g = filled σ u d m in
      let is = laid_branch σ q (first_part (block S)) (second_part (block S)) from.tick in
      let fits = fits_as F (laid_as (branch q (first_part (block S)) (second_part (block S)) (after_first (block S))) (if_at S.here k).is is) in
      omega (arith, fits.room.room, test_length, branch_size f g, length_block (settled from.wait (lead ⧺ branch q f g nil)))

  -- THE TEST ENDS AT `test`

  module _ {test : State} {new : List ℕ} (T : StepLaid σ from 1 x old new test) where
    abbrev I : Tested s i to σ from test
    I = record { statement = S; kind = k; stepped = T.state }

    abbrev A : Block
    A = one I

    abbrev D : Block
    D = two I

    abbrev meets : ℕ
    meets = end I

    abbrev side : Block → Block
    side b = filled σ test.tick (laid σ b test.tick) meets

    abbrev all : Block
    all = whole I

    the_if : LaidFits σ all from old
    the_if = fits_as F (branch_as I)

    sizes : size (settled from.wait all) ≡ size (settled from.wait lead) + skip_records w + (3 + size (merge 0 (side A)) + size (merge 0 (side D)))
    sizes = branch_size (side A) (side D)

    -- its bytes: the test, and each side up to the record that closes it
    abbrev side_bytes_is : Block → Rec → List ℕ
    side_bytes_is b y = block_bytes (merge 0 (side b)) ++ record_bytes y

    whole_bytes : bytes_of from all ≡ step_bytes σ from 1 x ++ (side_bytes_is A else_rec ++ side_bytes_is D end_rec)
    whole_bytes =
        bytes_settled from.wait lead (branch q (side A) (side D) nil)
        ∙ ap (λ (bs : List ℕ). bytes_of from lead ++ bs)
        (waiting_bytes w (branch q (merge 0 (side A)) (merge 0 (side D)) nil)
        ∙ ap (λ (bs : List ℕ). skip_bytes w ++ bs)
        (branch_bytes_is q (merge 0 (side A)) (merge 0 (side D))
        ∙ ap (λ (y : Rec). record_bytes y ++ (block_bytes (merge 0 (side A)) ++ (record_bytes else_rec ++ side_bytes_is D end_rec))) (sym is_test)))
        ∙ simp append_assoc

    in_time : meets ≤ σ.period
    in_time = omega (arith, the_if.within, not_before I)

    soon : test.tick ≤ σ.period
    soon = omega (arith, in_time)

    test_records : test.records ≡ from.records + (size (settled from.wait lead) + skip_records w + 1)
    test_records =
        omega (
          arith,
          (T.state.after (check q) refl).records,
          size_settled from.wait lead (act (check q) nil),
          size_waiting w (act (check q) nil),
          sizes,
          the_if.room.few,
        )

    pub test_upto : (from.records ≤ test.records) × (test.records ≤ 5462)
    test_upto = (omega (arith, test_records), omega (arith, test_records, sizes, the_if.room.few))

    no_wait : test.wait ≡ 0
    no_wait = test_wait I

    -- its meeting stands in the table, and those in its sides
    abbrev ms_one : List ℕ
    ms_one = meetings σ (laid σ A test.tick) test.tick

    abbrev ms_two : List ℕ
    ms_two = meetings σ (laid σ D test.tick) test.tick

    all_meetings : meetings σ all from.tick ≡ meets ∷ (ms_one ++ ms_two)
    all_meetings = whole_meetings I

    held : Holds (meets ∷ (ms_one ++ ms_two)) p table
    held = subst (λ (ms : List ℕ). Holds ms p table) all_meetings (holds_as F (branch_as I))

    pub table_at : (p < 1821) × (get_or table p 0 ≡ meets)
    table_at = holds_first held

    -- THE SIDES ARE WRITTEN, up to tick m, and the next byte is at n

    -- a side of its own from a state with the clock of the test, and no tick of SKIP that waits
    abbrev starts : ℕ → State
    starts n = back_to test 0 n

    module _ {m : ℕ} (g : m ≡ get_or table p 0) {n : ℕ} (f : n ≡ laid_bytes from test) where
      meets_at : meets ≡ m
      meets_at = sym table_at.1 ∙ sym g

      test_part : Part (bytes_of from all) (side_bytes_is A else_rec ++ side_bytes_is D end_rec) old new n
      test_part =
          subst (λ (bs : List ℕ). Part bs (side_bytes_is A else_rec ++ side_bytes_is D end_rec) old new n) (sym whole_bytes)
          (part_first (step_bytes σ from 1 x) (subst (λ (bs : List ℕ). length bs ≤ length old) whole_bytes the_if.room.room) T.wrote
          (f ∙ omega (arith, test_records, test_length)))

      pub test_at : n ≤ length new
      test_at = part_at test_part

      pub one_fits : SideFits s (i + 1) to σ test m else_rec (p + 1) table (lent new n)
      one_fits =
          subst (λ (j : ℕ). SideFits s (i + 1) to σ test j else_rec (p + 1) table (lent new n)) meets_at (record {
            entered = record { file = first_in_is S.here (ap opens_block k); ready = ready I soon };
            reaches = omega arith;
            upto = in_time;
            free = end_free I;
            few = omega (arith, sizes, the_if.room.few, test_records, ap (λ (w : ℕ). size (merge w (side A))) no_wait);
            room = subst (λ (w : ℕ). length (block_bytes (merge w (side A)) ++ record_bytes else_rec) ≤ length (lent new n)) (sym no_wait)
                (part_fits (side_bytes_is A else_rec) (side_bytes_is D end_rec) test_part);
            holds = holds_left ms_one ms_two (holds_rest (ms_one ++ ms_two) held);
          })

      module _ {ys : List ℕ} {a : Passage} (L : SideLaid s (i + 1) to σ test m else_rec (p + 1) (lent new n) ys a) where
        abbrev new_2 : List ℕ
        new_2 = back new n ys

        one_lays : SideLays σ A meets else_rec (i + 1 + size A) (p + 1) test (lent new n) ys a
        one_lays = subst (λ (j : ℕ). SideLays σ A j else_rec (i + 1 + size A) (p + 1) test (lent new n) ys a) (sym meets_at) (L.right A (sides I).first)

        one_records : a.state.records ≡ test.records + size (merge 0 (side A)) + 1
        one_records = omega (arith, one_lays.closed.records, ap (λ (w : ℕ). size (merge w (side A))) no_wait)

        pub one_upto : (from.records ≤ a.state.records) × (a.state.records ≤ 5462)
        one_upto = (omega (arith, one_records, test_records), omega (arith, one_records, test_records, sizes, the_if.room.few))

        pub one_ends : a.next ≡ i + 1 + size A
        one_ends = one_lays.goes

        one_wrote : ys ≡ over (side_bytes_is A else_rec) (lent new n)
        one_wrote = one_lays.wrote ∙ ap (λ (w : ℕ). over (block_bytes (merge w (side A)) ++ record_bytes else_rec) (lent new n)) no_wait

        module _ {l : ℕ} (h : l ≡ laid_bytes from a.state) where
          one_part : Part (bytes_of from all) (side_bytes_is D end_rec) old new_2 l
          one_part =
              subst (Part (bytes_of from all) (side_bytes_is D end_rec) old new_2)
              (omega (
                arith,
                f,
                h,
                one_records,
                test_records,
                length-append (block_bytes (merge 0 (side A))) (record_bytes else_rec),
                length_block (merge 0 (side A)),
              ))
              (part_lent {n = length (side_bytes_is A else_rec)} (side_bytes_is A else_rec) test_part one_wrote refl)

          pub one_at : l ≤ length new_2
          one_at = part_at one_part

          pub one_long : length new_2 ≡ length old
          one_long = part_length one_part

          abbrev two_in : InFile Equalised s (a.next + 1) to
          two_in = second_in S.here k one_ends

          module _ {z : State} (st : z ≡ starts a.state.records) where
            pub two_fits : SideFits s (a.next + 1) to σ z m end_rec a.ifs table (lent new_2 l)
            two_fits = subst (λ (z : State). SideFits s (a.next + 1) to σ z m end_rec a.ifs table (lent new_2 l)) (sym st)
                (subst (λ (j : ℕ). SideFits s (a.next + 1) to σ (starts a.state.records) j end_rec a.ifs table (lent new_2 l)) meets_at (record {
                  entered = record { file = two_in; ready = ready_again I soon one_upto.1 };
                  reaches = omega arith;
                  upto = in_time;
                  free = end_free I;
                  few = omega (arith, one_records, test_records, sizes, the_if.room.few);
                  room = part_fits_last one_part;
                  holds = subst (λ (j : ℕ). Holds ms_two j table) (sym one_lays.ifs) (holds_right ms_one ms_two (holds_rest (ms_one ++ ms_two) held));
                }))

            module _ {zs : List ℕ} {d : Passage} (E : SideLaid s (a.next + 1) to σ z m end_rec a.ifs (lent new_2 l) zs d) where
              two_lays : SideLays σ D meets end_rec (a.next + 1 + size D) a.ifs (starts a.state.records) (lent new_2 l) zs d
              two_lays =
                  subst (λ (j : ℕ). SideLays σ D j end_rec (a.next + 1 + size D) a.ifs (starts a.state.records) (lent new_2 l) zs d) (sym meets_at)
                  ((subst (λ (z : State). SideLaid s (a.next + 1) to σ z m end_rec a.ifs (lent new_2 l) zs d) st E).right D two_in.stands)

              pub two_ends : d.next ≡ i + 1 + size A + 1 + size D
              two_ends = omega (arith, two_lays.goes, one_ends)

              ends_at : d.state.tick ≡ meets
              ends_at = two_lays.closed.tick
                  ∙ filled_ends σ S.ready.laying.settings.fits (laid σ D test.tick) test.tick meets (second_free I) (end_free I) (omega arith)

              met : Met σ test (laid σ A test.tick) (laid σ D test.tick) d.state
              met = record {
                shows = two_lays.closed.shows;
                tick = ends_at;
                wait = two_lays.closed.wait;
                records = counted
                    ∙ ap (λ (t : ℕ). cap (test.records + (2 + size (merge 0 (filled σ test.tick (laid σ A test.tick) t)) + size (merge 0 (filled σ test.tick (laid σ D test.tick) t)))))
                    (sym ends_at);
              }
                where
                  counted : d.state.records ≡ cap (test.records + (2 + size (merge 0 (side A)) + size (merge 0 (side D))))
                  counted = omega (arith, two_lays.closed.records, one_records, test_records, sizes, the_if.room.few)

              pub branch_laid : StatementLaid s i to σ from p old (back new_2 l zs) (record { state = d.state; next = d.next + 1; ifs = d.ifs })
              branch_laid =
                  answered_as F (branch_as I)
                  (record {
                    lays = record {
                      after = branch_after q (laid σ A test.tick) (laid σ D test.tick) S.ready.laying.settings.fits (tested I) met
                          (first_free I) (second_free I);
                      wrote = part_last one_part two_lays.wrote;
                    };
                    goes = omega (arith, two_ends);
                    ifs = omega (arith, two_lays.ifs, one_lays.ifs, ap length all_meetings, length-append ms_one ms_two);
                  })
