-- Closed facts: what a caller in C gets of an address, of a round's version, and of a refusal's text, at named inputs.
-- A wrong definition is refused here.
use mathlib.Core.Path.{◌≡◌, refl}
use mathlib.Core.List.{[], ◌∷◌}
use Rattle.records.specs.Sections.{located}
use Rattle.rounds.specs.Round.{head_bytes, written, written_left}
use Rattle.rounds.specs.declared.file.Version.TheVariants.{One, Two}
use Rattle.exports.specs.Found.{told}
use Rattle.exports.specs.Parts.{part_or}
use Rattle.exports.specs.Texts.{library_version, texts, text_of, text_put}
use Rattle.exports.specs.Versions.{version_head, version_told, written_as}
use Rattle.records.specs.Put.{put}
use Rattle.std.specs.Prelude.{codes}
use Rattle.std.specs.Prelude.{Ok, Err}
use Rattle.numbers.specs.declared.refusal.Refusal.TheVariants.{NoRoundFile}

-- Eight bytes at 0x60000008 and at 0x50000008, in a system section of 112 bytes and a graphics section of 16: the
-- section's number, the offset and the length.
graphics_part : part_or (located 0x6000_0008 1 8 112 16) (9 ∷ 9 ∷ 9 ∷ []) ≡ 1 ∷ 8 ∷ 8 ∷ []
unfolding located
graphics_part = refl

system_part_law : part_or (located 0x5000_0008 1 8 112 16) (9 ∷ 9 ∷ 9 ∷ []) ≡ 0 ∷ 8 ∷ 8 ∷ []
unfolding located
system_part_law = refl

-- 0x70000000 is no address: the lent array stays as it was
no_part : part_or (located 0x7000_0000 1 8 112 16) (9 ∷ 9 ∷ 9 ∷ []) ≡ 9 ∷ 9 ∷ 9 ∷ []
unfolding located
no_part = refl

-- Area 1027, number 258, two choices: version 2. Version 1 tells area 0.
two_told : version_told (Ok (record { version = Two 1027; start = 258; count = 2 })) (version_head 9 9 9 9)
    ≡ told 0 0 (version_head 2 1027 258 2)
two_told = refl

one_told : version_told (Ok (record { version = One; start = 258; count = 2 })) (version_head 9 9 9 9)
    ≡ told 0 0 (version_head 1 0 258 2)
one_told = refl

-- the numbers 0 and 3 are no versions; 2 has the head with the area
no_version_0 : written_as 0 1027 258 [] (9 ∷ []) ≡ written_left (Err NoRoundFile) (9 ∷ [])
no_version_0 = refl

no_version_3 : written_as 3 1027 258 [] (9 ∷ []) ≡ written_left (Err NoRoundFile) (9 ∷ [])
no_version_3 = refl

version_2 : written_as 2 1027 258 [] (9 ∷ []) ≡ written (head_bytes (Two 1027)) 258 [] (9 ∷ [])
version_2 = refl

-- 1.2.3 is 10203
version_1_2_3 : library_version 1 2 3 ≡ 10203
version_1_2_3 = refl

-- the first text, the last of the table, and what no refusal has
accepted_text : text_of 0 ≡ codes "accepted"
unfolding text_of texts
accepted_text = refl

last_text : text_of 19 ≡ codes "a version 2 round's area isn't the cell's"
unfolding text_of texts
last_text = refl

no_text : text_of 20 ≡ codes "no refusal has this number"
unfolding text_of texts
no_text = refl

-- "ab" in five bytes, in three, in two, in one and in none: the zero stands in all but the last
room_left : text_put (97 ∷ 98 ∷ []) (9 ∷ 9 ∷ 9 ∷ 9 ∷ 9 ∷ []) ≡ 97 ∷ 98 ∷ 0 ∷ 9 ∷ 9 ∷ []
unfolding text_put put
room_left = refl

just_room : text_put (97 ∷ 98 ∷ []) (9 ∷ 9 ∷ 9 ∷ []) ≡ 97 ∷ 98 ∷ 0 ∷ []
unfolding text_put put
just_room = refl

cut_off : text_put (97 ∷ 98 ∷ []) (9 ∷ 9 ∷ []) ≡ 97 ∷ 0 ∷ []
unfolding text_put put
cut_off = refl

zero_alone : text_put (97 ∷ 98 ∷ []) (9 ∷ []) ≡ 0 ∷ []
unfolding text_put put
zero_alone = refl

no_bytes : text_put (97 ∷ 98 ∷ []) [] ≡ []
unfolding text_put put
no_bytes = refl
