-- What clap's getters give, as the rows have it.
use Rattle.std.proofs.Common.{◌≡◌, ◌≢◌, codes, ◌∙◌, ◌<◌, ◌^◌, ℕ, List, Option, Some, None, IfNone, IfSome, refl, sym, subst, ap, arith, slice_index}
use Rattle.std.specs.Prelude.{Result, option_map, Ok, Err, is_some}
use Rattle.std.specs.Borrow.{Bor}
use Rattle.std.specs.Str.Parse.{ParsesUnsigned}
use Rattle.clap.specs.declared.parser.matches.Found.{Found}
use Rattle.std.specs.Box.{box_value}
use Rattle.std.specs.Prelude.{Box}
use Rattle.clap.specs.declared.parser.matches.ArgMatches.{ArgMatches}
use Rattle.clap.specs.declared.parser.matches.ArgMatches.TheViews.{out-ArgMatches, out-SubCommand}
use Rattle.clap.specs.declared.parser.matches.SubCommand.{SubCommand}
use Rattle.clap.specs.Words.{ReadsOne, Row, Text, first_of, first_value, one_text, rows_of}
use Rattle.clap.specs.Words.{subcommand_name_of, subcommand_rows, subcommand_rows_of}
use Rattle.clap.proofs.WalkLemmas.{first_value-rows, one_text-rows}
use Rattle.us_command_line.specs.declared.orders.FileCheck.{FileCheck}
use Rattle.us_command_line.specs.declared.orders.FileLint.{FileLint}
use Rattle.us_command_line.specs.declared.orders.FileReplay.{FileReplay}
use Rattle.us_command_line.specs.declared.orders.Order.{Order}
use Rattle.us_command_line.specs.declared.orders.Order.TheVariants as order
use Rattle.us_command_line.specs.Options.{FilesGoTogether, HasNumber, HasText, IsCheckOf, IsLintOf, IsOrderAt, IsOrderOf}
use Rattle.us_command_line.specs.Options.{IsReplayOf, MayHaveNumber, MayHaveText, OptionsGoTogether}

-- a text that was read
text_read : (rows : List Row) (option : Text) (result : Option (Bor Text)) → option_map (λ s. s.now) result ≡ first_of option rows
    → IfSome result (λ s. HasText rows option s.now)
text_read rows option None e = cc
text_read rows option (Some s) e = sym e

pub text_some : (f : Found) (option : Text) (result : Option (Bor Text)) → option_map (λ s. s.now) result ≡ first_value f option
    → IfSome result (λ s. HasText (rows_of f) option s.now)
text_some f option result e = text_read (rows_of f) option result (e ∙ first_value-rows f option)

-- and one that was not
text_missed : (rows : List Row) (option : Text) (result : Option (Bor Text)) → option_map (λ s. s.now) result ≡ first_of option rows
    → IfNone result ((text : Text) → ¬ (HasText rows option text))
text_missed rows option None e = λ text h. let bad = e ∙ h in cc
text_missed rows option (Some s) e = cc

pub text_none : (f : Found) (option : Text) (result : Option (Bor Text)) → option_map (λ s. s.now) result ≡ first_value f option
    → IfNone result ((text : Text) → ¬ (HasText (rows_of f) option text))
text_none f option result e = text_missed (rows_of f) option result (e ∙ first_value-rows f option)

-- a text that may be left out
pub text_any : (f : Found) (option : Text) (result : Option (Bor Text)) → option_map (λ s. s.now) result ≡ first_value f option
    → MayHaveText (rows_of f) option result
text_any f option result e = e ∙ first_value-rows f option

-- a number that was read
pub number_some : {E : Type 0} (gives : List ℕ → Result ℕ E → Type 0) → ((t : Text) (r : Result ℕ E) → gives t r → ParsesUnsigned 32 10 t r)
    → (f : Found) (option : Text) (result : Option ℕ) (text : Option Text) → one_text f option ≡ text
    → (text ≡ None → result ≡ None) → ((t : Text) → text ≡ Some t → ReadsOne gives t result)
    → IfSome result (HasNumber (rows_of f) option)
number_some gives parses f option None text e none value = cc
number_some gives parses f option (Some n) None e none value = let bad = none refl in cc
number_some gives parses f option (Some n) (Some t) e none value =
    let read = parses t (Ok n) (value t refl) in
    record {
      text = t;
      of_option = sym (one_text-rows f option) ∙ e;
      digits = read.0.0;
      value = read.1;
      fits = subst (λ m. m < 2 ^ 32) (sym read.1) read.0.1;
    }

-- and one that was not
pub number_none : {E : Type 0} (gives : List ℕ → Result ℕ E → Type 0) → ((t : Text) (r : Result ℕ E) → gives t r → ParsesUnsigned 32 10 t r)
    → (f : Found) (option : Text) (result : Option ℕ) → ((t : Text) → one_text f option ≡ Some t → ReadsOne gives t result)
    → IfNone result ((n : ℕ) → ¬ (HasNumber (rows_of f) option n))
number_none gives parses f option (Some n) value = cc
number_none gives parses f option None value = λ n h.
    let failed = value h.text (one_text-rows f option ∙ h.of_option) in
    parses h.text (Err failed.0) failed.1 (h.digits, subst (λ m. m < 2 ^ 32) h.value h.fits)

-- a number that may be left out
pub number_any : (rows : List Row) (option : Text) (result : Option ℕ) → IfSome result (HasNumber rows option)
    → IfNone result ((n : ℕ) → ¬ (HasNumber rows option n)) → MayHaveNumber rows option result
number_any rows option None some none = none
number_any rows option (Some n) some none = some

-- without a number there is no check, and without a check or a number no replay
pub no_rounds_no_check : (rows : List Row) (r : Option FileCheck) → ((n : ℕ) → ¬ (HasNumber rows (codes "rounds") n))
    → IfNone r ((files : FileCheck) → ¬ (IsCheckOf rows files))
no_rounds_no_check rows None none = λ files h. none files.rounds h.rounds
no_rounds_no_check rows (Some o) none = cc

pub no_check_no_replay : (rows : List Row) (r : Option FileReplay) → ((files : FileCheck) → ¬ (IsCheckOf rows files))
    → IfNone r ((files : FileReplay) → ¬ (IsReplayOf rows files))
no_check_no_replay rows (Some o) none = cc
no_check_no_replay rows None none = λ files h.
    let check : FileCheck = record { config = files.config; trace = files.trace; rounds = files.rounds; maps = files.maps; report = files.report } in
    none check (record { config = h.config; trace = h.trace; rounds = h.rounds; maps = h.maps; report = h.report })

pub no_workers_no_replay : (rows : List Row) (r : Option FileReplay) → ((n : ℕ) → ¬ (HasNumber rows (codes "workers") n))
    → IfNone r ((files : FileReplay) → ¬ (IsReplayOf rows files))
no_workers_no_replay rows None none = λ files h. none files.workers h.workers
no_workers_no_replay rows (Some o) none = cc

-- the name and the rows of the subcommand, which were told one by one
pub met_is : (given : ArgMatches) (name : Text) (rows : List Row) → Some name ≡ subcommand_name_of given
    → Some rows ≡ option_map (λ (p : Text × List Row). p.1) (subcommand_rows_of given) → subcommand_rows_of given ≡ Some (name, rows)
met_is given name rows = go (out-ArgMatches given).subcommand
  where
    go : {Z : Type 0} (met : Option (Box SubCommand Z)) → Some name ≡ option_map (λ b. (out-SubCommand (box_value b)).name.now) met
        → Some rows ≡ option_map (λ (p : Text × List Row). p.1) (subcommand_rows met) → subcommand_rows met ≡ Some (name, rows)
    go None by_name by_rows = cc
    go (Some b) by_name by_rows = cc

-- two names of one length
dump_is_not_lint : ¬ (codes "dump" ≡ codes "lint")
dump_is_not_lint e = let first : 100 ≡ 108 = ap (λ t. slice_index t 0) e in omega (arith, first)

-- no order is of the subcommand that was met
no_order : (name : Text) (rows : List Row)
    → (name ≡ codes "replay" → (files : FileReplay) → ¬ (IsReplayOf rows files))
    → (name ≡ codes "check" → (files : FileCheck) → ¬ (IsCheckOf rows files))
    → (name ≡ codes "lint" → (files : FileLint) → ¬ (IsLintOf rows files))
    → (name ≡ codes "dump" → (path : Text) → ¬ (HasText rows (codes "maps") path))
    → (name ≢ codes "replay" → name ≢ codes "check" → name ≢ codes "lint" → name ≢ codes "dump" → (rounds workers : ℕ)
    → HasNumber rows (codes "rounds") rounds → ¬ (HasNumber rows (codes "workers") workers))
    → (o : Order) → ¬ (IsOrderOf name rows o)
no_order name rows replay check lint dump pipe (order.Replay files) h = replay h.0 files h.1
no_order name rows replay check lint dump pipe (order.Check files) h = check h.0 files h.1
no_order name rows replay check lint dump pipe (order.Lint files) h = lint h.0 files h.1
no_order name rows replay check lint dump pipe (order.Dump path) h = dump h.0 path.now h.1
no_order name rows replay check lint dump pipe (order.Pipe rounds workers) h = pipe h.0 h.1 h.2 h.3 rounds workers h.4 h.5
no_order name rows replay check lint dump pipe (order.Help text) h = h

pub no_replay : (r : Option Order) (name : Text) (rows : List Row)
    → name ≡ codes "replay" → ((files : FileReplay) → ¬ (IsReplayOf rows files)) → IfNone r ((o : Order) → ¬ (IsOrderOf name rows o))
no_replay (Some o) name rows is none = cc
no_replay None name rows is none = no_order name rows (λ _. none)
    (λ n. let bad : codes "check" ≡ codes "replay" = sym n ∙ is in cc)
    (λ n. let bad : codes "lint" ≡ codes "replay" = sym n ∙ is in cc)
    (λ n. let bad : codes "dump" ≡ codes "replay" = sym n ∙ is in cc) (λ n _ _ _. absurd (n is))

pub no_check : (r : Option Order) (name : Text) (rows : List Row)
    → name ≡ codes "check" → ((files : FileCheck) → ¬ (IsCheckOf rows files)) → IfNone r ((o : Order) → ¬ (IsOrderOf name rows o))
no_check (Some o) name rows is none = cc
no_check None name rows is none = no_order name rows
    (λ n. let bad : codes "replay" ≡ codes "check" = sym n ∙ is in cc) (λ _. none)
    (λ n. let bad : codes "lint" ≡ codes "check" = sym n ∙ is in cc)
    (λ n. let bad : codes "dump" ≡ codes "check" = sym n ∙ is in cc) (λ _ n _ _. absurd (n is))

pub no_lint : (r : Option Order) (name : Text) (rows : List Row)
    → name ≡ codes "lint" → ((files : FileLint) → ¬ (IsLintOf rows files)) → IfNone r ((o : Order) → ¬ (IsOrderOf name rows o))
no_lint (Some o) name rows is none = cc
no_lint None name rows is none = no_order name rows
    (λ n. let bad : codes "replay" ≡ codes "lint" = sym n ∙ is in cc)
    (λ n. let bad : codes "check" ≡ codes "lint" = sym n ∙ is in cc) (λ _. none)
    (λ n. absurd (dump_is_not_lint (sym n ∙ is))) (λ _ _ n _. absurd (n is))

pub no_pipe : (r : Option Order) (name : Text) (rows : List Row)
    → name ≢ codes "replay" → name ≢ codes "check" → name ≢ codes "lint" → name ≢ codes "dump"
    → ((rounds workers : ℕ) → HasNumber rows (codes "rounds") rounds → ¬ (HasNumber rows (codes "workers") workers))
    → IfNone r ((o : Order) → ¬ (IsOrderOf name rows o))
no_pipe (Some o) name rows not_replay not_check not_lint not_dump none = cc
no_pipe None name rows not_replay not_check not_lint not_dump none = no_order name rows
    (λ n. absurd (not_replay n)) (λ n. absurd (not_check n)) (λ n. absurd (not_lint n)) (λ n. absurd (not_dump n)) (λ _ _ _ _. none)

-- options that may be left out are there in both of two lints, or in none
texts_alike : (wanted : Option Text) (a b : Option (Bor Text)) → option_map (λ t. t.now) a ≡ wanted → option_map (λ t. t.now) b ≡ wanted
    → is_some a ≡ is_some b
texts_alike wanted None None one other = refl
texts_alike wanted (Some a) (Some b) one other = refl
texts_alike wanted None (Some b) one other = let bad = one ∙ sym other in cc
texts_alike wanted (Some a) None one other = let bad = one ∙ sym other in cc

numbers_alike : (rows : List Row) (option : Text) (a b : Option ℕ) → MayHaveNumber rows option a → MayHaveNumber rows option b
    → is_some a ≡ is_some b
numbers_alike rows option None None one other = refl
numbers_alike rows option (Some a) (Some b) one other = refl
numbers_alike rows option None (Some b) one other = absurd (one b other)
numbers_alike rows option (Some a) None one other = absurd (other a one)

files_alike : (rows : List Row) (a b : FileLint) → IsLintOf rows a → IsLintOf rows b → FilesGoTogether a → FilesGoTogether b
files_alike rows a b one other together =
    let maps : is_some b.maps ≡ is_some a.maps = texts_alike _ b.maps a.maps other.maps one.maps in
    let report : is_some b.report ≡ is_some a.report = texts_alike _ b.report a.report other.report one.report in
    let trace : is_some a.trace ≡ is_some b.trace = texts_alike _ a.trace b.trace one.trace other.trace in
    let rounds : is_some a.rounds ≡ is_some b.rounds = numbers_alike rows _ a.rounds b.rounds one.rounds other.rounds in
    record {
      report = report ∙ together.report ∙ sym maps;
      trace = λ given. sym trace ∙ together.trace (sym maps ∙ given);
      rounds = λ given. sym rounds ∙ together.rounds (sym maps ∙ given);
    }

-- where the options of an order don't go together, those of no order do that is of these words
pub none_together : (met : Option (Text × List Row)) (o other : Order) → IsOrderAt met o → ¬ (OptionsGoTogether o)
    → IsOrderAt met other → ¬ (OptionsGoTogether other)
none_together None o other of apart = absurd of
none_together (Some met) (order.Replay files) other of apart = absurd (apart tt)
none_together (Some met) (order.Check files) other of apart = absurd (apart tt)
none_together (Some met) (order.Dump path) other of apart = absurd (apart tt)
none_together (Some met) (order.Pipe rounds workers) other of apart = absurd (apart tt)
none_together (Some met) (order.Help text) other of apart = absurd of
none_together (Some met) (order.Lint files) (order.Replay others) of apart =
    λ h _. let bad : codes "replay" ≡ codes "lint" = sym h.0 ∙ of.0 in cc
none_together (Some met) (order.Lint files) (order.Check others) of apart =
    λ h _. let bad : codes "check" ≡ codes "lint" = sym h.0 ∙ of.0 in cc
none_together (Some met) (order.Lint files) (order.Dump path) of apart =
    λ h _. dump_is_not_lint (sym h.0 ∙ of.0)
none_together (Some met) (order.Lint files) (order.Pipe rounds workers) of apart = λ h _. h.2 of.0
none_together (Some met) (order.Lint files) (order.Help text) of apart = λ h _. h
none_together (Some met) (order.Lint files) (order.Lint others) of apart =
    λ h together. apart (files_alike met.1 others files h.1 of.1 together)
