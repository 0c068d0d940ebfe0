-- What the words of a strategy and of the propagator show is shown again by their texts.
use Rattle.std.proofs.Common.{◌≡◌, ◌++◌, ◌&&◌, ℕ, Bool, true, false, cond, nat_le, List, Option, Some, None, option_map, option_and_then, refl, ap, ◌∙◌, subst, arith, codes}
use Rattle.std.specs.List.{list_all}
use Rattle.std.specs.Fmt.{decimal}
use Rattle.std.proofs.lemmas.Bool.Decides.{nat_tests}
use Rattle.sx_values.specs.Texts.{is_printable, is_digit}
use Rattle.sx_sync.specs.declared.Strategy.{Strategy}
use Rattle.sx_sync.specs.declared.Strategy.TheVariants as strategy
use Rattle.sx_journal.specs.declared.entry.PropLine.{PropLine}
use Rattle.sx_journal.specs.declared.entry.PropLine.TheVariants as pace
use Rattle.sx_text.specs.Numbers.{number_of}
use Rattle.sx_text.proofs.DecimalLaws.{decimal-number_of, digits_of_decimal}
use Rattle.sx_lines.specs.Lines.{when, behind, same_bytes}
use Rattle.sx_lines.specs.Forms.{choose, count_in, strategy_in, pace_in}
use Rattle.sx_lines.specs.Printing.{strategy_text, pace_text}
use Rattle.sx_lines.proofs.NameLaws.{when_some, and_left, and_both, all_implied, printable_append}

-- ---- counts

digit_printable : (b : ℕ) → is_digit b ≡ true → is_printable b ≡ true
digit_printable b e =
    let p = and_left (nat_le 48 b) (nat_le b 57) e in
    let low = p.0 in
    let high = p.1 in
    and_both (nat_le 0x20 b) (nat_le b 0x7E) (grind (arith, nat_tests)) (grind (arith, nat_tests))

-- a number that is read again from its decimal text
record IsCounted (most n : ℕ) : Type 0 where
  again : count_in most (decimal n) ≡ Some n
  printable : list_all is_printable (decimal n) ≡ true

count_again : (most n : ℕ) (text : List ℕ) → count_in most text ≡ Some n → IsCounted most n
count_again most n text e = by (number_of text) refl e
  where
    by : (found : Option ℕ) → number_of text ≡ found → option_and_then (λ m. when (nat_le 1 m && nat_le m most) m) found ≡ Some n → IsCounted most n
    by None d f = absurd (cc)
    by (Some m) d f =
        let w = when_some (nat_le 1 m && nat_le m most) m n f in
        let read = decimal-number_of text n (d ∙ ap Some w.1) in
        record {
          again = ap (count_in most) read.text ∙ e;
          printable = all_implied is_digit is_printable digit_printable (decimal n) (digits_of_decimal n read.small);
        }

-- ---- strategies

-- a strategy that is read again from its text
pub record IsStrategyText (s : Strategy) : Type 0 where
  pub again : strategy_in (strategy_text s) ≡ Some s
  pub printable : list_all is_printable (strategy_text s) ≡ true

-- each strategy is read again from its text
pub strategy_again : (s : Strategy) → IsStrategyText s
unfolding strategy_in
strategy_again strategy.Blocking = record { again = refl; printable = refl }
strategy_again strategy.NonBlockingAbort = record { again = refl; printable = refl }
strategy_again strategy.NonBlockingCommit = record { again = refl; printable = refl }

-- ---- the propagator

-- what the propagator does that is read again from its text
pub record IsPaceText (p : PropLine) : Type 0 where
  pub again : pace_in (pace_text p) ≡ Some p
  pub printable : list_all is_printable (pace_text p) ≡ true

start_again : IsPaceText pace.Start
unfolding pace_in
start_again = record { again = refl; printable = refl }

check_again : IsPaceText pace.Check
unfolding pace_in
check_again = record { again = refl; printable = refl }

switch_again : IsPaceText pace.Switch
unfolding pace_in
switch_again = record { again = refl; printable = refl }

at_scan : (text : List ℕ) → pace_in (codes "scan " ++ text) ≡ option_map pace.Scan (count_in 64 text)
unfolding pace_in
at_scan text = refl

at_fetch : (text : List ℕ) → pace_in (codes "fetch " ++ text) ≡ option_map pace.Fetch (count_in 256 text)
unfolding pace_in
at_fetch text = refl

scan_again : (p : PropLine) (found : Option ℕ) → ((n : ℕ) → found ≡ Some n → IsCounted 64 n) → option_map pace.Scan found ≡ Some p → IsPaceText p
scan_again p None is e = absurd (cc)
scan_again p (Some n) is e =
    let counted = is n refl in
    let same : pace.Scan n ≡ p = cc in
    subst IsPaceText same (record {
      again = at_scan (decimal n) ∙ ap (option_map pace.Scan) counted.again;
      printable = printable_append (codes "scan ") (decimal n) refl counted.printable;
    })

fetch_again : (p : PropLine) (found : Option ℕ) → ((n : ℕ) → found ≡ Some n → IsCounted 256 n) → option_map pace.Fetch found ≡ Some p → IsPaceText p
fetch_again p None is e = absurd (cc)
fetch_again p (Some n) is e =
    let counted = is n refl in
    let same : pace.Fetch n ≡ p = cc in
    subst IsPaceText same (record {
      again = at_fetch (decimal n) ∙ ap (option_map pace.Fetch) counted.again;
      printable = printable_append (codes "fetch ") (decimal n) refl counted.printable;
    })

-- what a text shows of the propagator is read again from its own text
pub pace_again : (text : List ℕ) (p : PropLine) → pace_in text ≡ Some p → IsPaceText p
unfolding pace_in
pace_again text p e =
    by (same_bytes text (codes "start")) (same_bytes text (codes "check")) (same_bytes text (codes "switch")) (behind (codes "scan ") text) (behind (codes "fetch ") text) e
  where
    by : (starts checks switches : Bool) (scan fetch : Option (List ℕ))
        → cond starts (Some pace.Start) (cond checks (Some pace.Check) (cond switches (Some pace.Switch) (choose scan (λ rest. option_map pace.Scan (count_in 64 rest))
        (choose fetch (λ rest. option_map pace.Fetch (count_in 256 rest)) None)))) ≡ Some p → IsPaceText p
    by true checks switches scan fetch f = let same : pace.Start ≡ p = cc in subst IsPaceText same start_again
    by false true switches scan fetch f = let same : pace.Check ≡ p = cc in subst IsPaceText same check_again
    by false false true scan fetch f = let same : pace.Switch ≡ p = cc in subst IsPaceText same switch_again
    by false false false (Some rest) fetch f = scan_again p (count_in 64 rest) (λ n g. count_again 64 n rest g) f
    by false false false None (Some rest) f = fetch_again p (count_in 256 rest) (λ n g. count_again 256 n rest g) f
    by false false false None None f = absurd (cc)
