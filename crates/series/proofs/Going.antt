-- Going through the words of a line: what is written so far, with the words ahead.
use mathlib.Core.Path.{◌≡◌, refl, sym, ap, ap₂, ◌∙◌}
use mathlib.Core.Bool.{Bool, true, false, ◌&&◌}
use mathlib.Core.List.{List, []}
use Prim.Native.Nat.{ℕ, suc, ◌+◌, ◌≤◌}
use native.Mathlib.Numerals.{add-one}
use native.Mathlib.Omega.{arith}
use lib.IntN.{ℤ}
use lib.ListN.{length, set, length-set}
use Rattle.std.specs.Prelude.{Option, Some, None}
use Rattle.words.specs.declared.Span.{Span}
use Rattle.words.specs.Words.{spans_of}
use Rattle.words.specs.inner.Passing.{outside, FirstWord}
use Rattle.words.proofs.Parts.{outside_end}
use Rattle.numbered.specs.Numbers.{is_number, value_of}
use Rattle.series.specs.declared.Series.{Series}
use Rattle.series.specs.Series.{room, no_numbers, after_first, parsed_in, all_numbers, written_from, series_if}
use Rattle.series.specs.Series.{series_of}

abbrev series : ℕ → List ℤ → Option Series
series n numbers = Some (record { count = n; numbers = numbers })

module _ (line : List ℕ) where
  abbrev rest : List Span
  rest = after_first (spans_of line)

  -- the words from `at` on are those that are left
  pub record Gone (at n : ℕ) (numbers : List ℤ) : Type 0 where
    pub most : at ≤ length line
    pub fewer : n ≤ at
    pub wide : length numbers ≡ room
    pub good : all_numbers line (outside line at) ≡ all_numbers line rest
    pub count : n + length (outside line at) ≡ length rest
    pub written : written_from line (outside line at) n numbers ≡ written_from line rest 0 no_numbers

  begun : (at : ℕ) → at ≤ length line → outside line at ≡ rest → Gone at 0 no_numbers
  begun at h r = record {
    most = h;
    fewer = omega arith;
    wide = refl;
    good = ap (all_numbers line) r;
    count = let e = ap length r in omega arith;
    written = ap (λ (l : List Span). written_from line l 0 no_numbers) r;
  }

  pub gone_first : (s : Span) → FirstWord line 0 s → Gone s.end 0 no_numbers
  gone_first s w = begun s.end w.most (sym (ap after_first w.parted))

  pub gone_none : outside line 0 ≡ [] → Gone (length line) 0 no_numbers
  gone_none e = begun (length line) (omega arith) (outside_end line (length line) (omega arith) ∙ sym (ap after_first e))

  module _ {at n : ℕ} {numbers : List ℤ} (g : Gone at n numbers) where
    pub gone_on : (s : Span) (x : ℤ) → FirstWord line at s → parsed_in line s ≡ Some x
        → Gone s.end (n + 1) (set numbers n x)
    unfolding all_numbers written_from
    gone_on s x w p =
        let f = g.fewer in
        let l = w.later in
        let o = w.order in
        let k = g.count in
        let c : n + suc (length (outside line s.end)) ≡ length rest = rw w.parted at k in
        record {
          most = w.most;
          fewer = omega arith;
          wide = length-set numbers n x ∙ g.wide;
          good =
              sym
              (ap (all_numbers line) w.parted
              ∙ ap (λ (y : Option ℤ). is_number y && all_numbers line (outside line s.end)) p)
              ∙ g.good;
          count = omega arith;
          written =
              ap (λ (i : ℕ). written_from line (outside line s.end) i (set numbers n x)) (add-one n)
              ∙ sym
              (ap (λ (l : List Span). written_from line l n numbers) w.parted
              ∙ ap (λ (y : Option ℤ). written_from line (outside line s.end) (suc n) (set numbers n (value_of y))) p)
              ∙ g.written;
        }

    pub gone_bad : (s : Span) → FirstWord line at s → parsed_in line s ≡ None → None ≡ series_of line
    unfolding all_numbers series_of
    gone_bad s w p =
        let none : all_numbers line rest ≡ false =
        sym g.good ∙ ap (all_numbers line) w.parted
        ∙ ap (λ (y : Option ℤ). is_number y && all_numbers line (outside line s.end)) p
        in
        sym (ap (λ (t : Bool). series_if t line rest) none)

    pub gone_all : outside line at ≡ [] → series n numbers ≡ series_of line
    unfolding all_numbers written_from series_of
    gone_all e =
        let all : all_numbers line rest ≡ true = sym g.good ∙ ap (all_numbers line) e in
        let k = g.count in
        let c : n + 0 ≡ length rest = rw e at k in
        let many : n ≡ length rest = omega arith in
        let w : numbers ≡ written_from line rest 0 no_numbers =
        sym (ap (λ (l : List Span). written_from line l n numbers) e) ∙ g.written
        in
        ap₂ series many w ∙ sym (ap (λ (t : Bool). series_if t line rest) all)
