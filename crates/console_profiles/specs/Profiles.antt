-- DEFINITION: the words LIST, ACCEPTANCE and MARKS that name a profile for a program. ACCEPTANCE is `all`, or the mask as a number: bit M is the yes or no
-- for the set of marks M. LIST is `1` or `2`; so far MARKS is `transitions`. And the word LIST where it may be left out.
use Rattle.std.specs.Prelude.{cond, ◌&&◌, ◌||◌, List, ℕ, ltb, Option, Some, None, Result, Ok, Err}
use Rattle.acceptance.specs.Masks.{every_set}
use Rattle.automaton.specs.Bytes.{bytes}
use Rattle.clause_sizes.specs.declared.Listing.{Listing}
use Rattle.clause_sizes.specs.declared.Listing.TheVariants.{First, Second}
use Rattle.hoa_text.specs.Basics.{same}
use Rattle.console_numerals.specs.Numbers.{number_of}
use Rattle.clause_sizes.specs.declared.Target.{Target}
use Rattle.console_profiles.specs.declared.Unnamed.{Unnamed}
use Rattle.console_profiles.specs.declared.Unnamed.TheVariants.{Past, Unknown}

-- "the caller names which (the clause program by a third argument 2, else the first)" (document 02, E6)
abbrev pub listing_of : List ℕ → Listing
listing_of word = cond (same (bytes "2") word) Second First

-- 4 sets have 16 sets of marks, so that no automaton has a yes past bit 15
abbrev pub as_mask : Option ℕ → Result ℕ Unnamed
as_mask (Some x) = cond (ltb x 65536) (Ok x) (Err Past)
as_mask None = Err Unknown

abbrev pub mask_of : List ℕ → ℕ → Result ℕ Unnamed
mask_of word sets = cond (same (bytes "all") word) (Ok (every_set sets)) (as_mask (number_of word))

abbrev pub named : ℕ → ℕ → Listing → Result ℕ Unnamed → Result Target Unnamed
named states sets listing (Ok acceptance) = Ok (record { states = states; sets = sets; acceptance = acceptance; listing = listing })
named states sets listing (Err why) = Err why

abbrev pub profile_of : (list acceptance marks : List ℕ) (states sets : ℕ) → Result Target Unnamed
profile_of list acceptance marks states sets =
    cond ((same (bytes "1") list || same (bytes "2") list) && same (bytes "transitions") marks) (named states sets (listing_of list) (mask_of acceptance sets)) (Err Unknown)
