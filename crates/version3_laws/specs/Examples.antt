-- A card of version 3, the card that it is taken in as, and the card that this is given out as. Assumes nothing.
use Rattle.std.specs.Prelude.{ℕ, List, [], ◌∷◌, ◌++◌}
use Prim.Native.String.{String}
use Rattle.octets.specs.Ascii.{octets}

-- lines, each ended by CR LF
unfoldable pub ended : List String → List ℕ
ended [] = []
ended (s ∷ ss) = octets s ++ (13 ∷ 10 ∷ ended ss)

-- VERSION inside, a short N, pref beside another value, in quotes and alone, a bare semicolon in text, and a GEO
abbrev pub old_card : List ℕ
old_card = ended ("BEGIN:VCARD" ∷ "FN:A" ∷ "N:Doe;J" ∷ "version:3.0" ∷ "TEL;type=HOME,pref:1;2" ∷ "EMAIL;TYPE=\"Pref\";TYPE=pref,work:a" ∷ "GEO:+1.5;-2" ∷ "END:VCARD" ∷ [])

abbrev pub new_card : List ℕ
new_card = ended ("BEGIN:VCARD" ∷ "version:4.0" ∷ "FN:A" ∷ "N:Doe;J;;;" ∷ "TEL;type=HOME;PREF=1:1\\;2" ∷ "EMAIL;TYPE=work;PREF=1:a" ∷ "GEO:geo:+1.5,-2" ∷ "END:VCARD" ∷ [])

abbrev pub back_card : List ℕ
back_card = ended ("BEGIN:VCARD" ∷ "version:3.0" ∷ "FN:A" ∷ "N:Doe;J;;;" ∷ "TEL;type=HOME;TYPE=pref:1\\;2" ∷ "EMAIL;TYPE=work;TYPE=pref:a" ∷ "GEO:+1.5;-2" ∷ "END:VCARD" ∷ [])
