-- The line that tells of a new file, and the lines of a summary, in the pieces that they are written in.
use Rattle.std.proofs.Common.{◌≡◌, ℕ, List, [], ◌∷◌, ◌++◌, codes, decimal, sym, ◌∙◌, ap, append_assoc}
use Rattle.quilt_lang.specs.Trials.{line}
use Rattle.quilt_top.specs.Headline.{new_line}
use Rattle.quilt_top.specs.Trying.{summary_of}

abbrev pub pieces : ℕ → ℕ → List ℕ
pieces pages level = codes "new " ++ (decimal pages ++ (codes " pages level " ++ (decimal level ++ 10 ∷ [])))

pub pieces_are : (pages level : ℕ) → pieces pages level ≡ new_line pages level
pieces_are pages level =
    ap (λ (l : List ℕ). codes "new " ++ l) (sym (append_assoc (decimal pages) (codes " pages level " ++ decimal level) (10 ∷ [])))

abbrev edition_piece : ℕ → List ℕ
edition_piece edition = codes "edition" ++ 32 ∷ (decimal edition ++ 10 ∷ [])

abbrev records_piece : ℕ → ℕ → List ℕ
records_piece records edition = codes "records" ++ 32 ∷ (decimal records ++ 10 ∷ edition_piece edition)

abbrev no_piece : ℕ → ℕ → ℕ → List ℕ
no_piece refused records edition = codes "no" ++ 32 ∷ (decimal refused ++ 10 ∷ records_piece records edition)

abbrev pub summary_pieces : ℕ → ℕ → ℕ → ℕ → List ℕ
summary_pieces done refused records edition = codes "ok" ++ 32 ∷ (decimal done ++ 10 ∷ no_piece refused records edition)

-- a line of a word and a number, and then more
line_with : (word number rest : List ℕ) → line (word ∷ number ∷ []) ++ rest ≡ word ++ 32 ∷ (number ++ 10 ∷ rest)
line_with word number rest = append_assoc (word ++ 32 ∷ number) (10 ∷ []) rest ∙ append_assoc word (32 ∷ number) (10 ∷ rest)

pub summary_pieces_are : (done refused records edition : ℕ) → summary_of done refused records edition ≡ summary_pieces done refused records edition
summary_pieces_are done refused records edition =
    let ok = line (codes "ok" ∷ decimal done ∷ []) in
    let no = line (codes "no" ∷ decimal refused ∷ []) in
    let held = line (codes "records" ∷ decimal records ∷ []) in
    let last = line (codes "edition" ∷ decimal edition ∷ []) in
    append_assoc (ok ++ no) held last ∙ append_assoc ok no (held ++ last)
    ∙ ap (λ (l : List ℕ). ok ++ (no ++ l))
    (line_with (codes "records") (decimal records) last
    ∙ ap (λ (l : List ℕ). codes "records" ++ 32 ∷ (decimal records ++ 10 ∷ l)) (append_assoc (codes "edition") (32 ∷ decimal edition) (10 ∷ [])))
    ∙ ap (λ (l : List ℕ). ok ++ l) (line_with (codes "no") (decimal refused) (records_piece records edition))
    ∙ line_with (codes "ok") (decimal done) (no_piece refused records edition)
