-- The lines that tell what a cap says.
use Rattle.std.specs.Prelude.{ℕ, List, ◌++◌, codes, decimal, length}
use Rattle.cap_text.specs.Cap.{VerifyCapValue, verify_cap_of}
use Rattle.cap_text.specs.CapText.{verify_cap_text}
use Rattle.cap_text.specs.declared.cap.Cap.{Cap}
use Rattle.cap_text.specs.declared.cap.Cap.TheVariants.{Chk, Verify, Lit}

-- the lines of a cap of this kind, whose file has shares
abbrev pub share_lines : List ℕ → VerifyCapValue → List ℕ
share_lines kind cap = codes "kind "
    ++ (kind ++ (codes "\nk " ++ (decimal cap.needed ++ (codes "\nn " ++ (decimal cap.total
    ++ (codes "\nsize "
    ++ (decimal cap.size ++ (codes "\nverify " ++ (verify_cap_text cap ++ codes "\n")))))))))

-- the lines of a cap
abbrev pub cap_lines : Cap → List ℕ
cap_lines (Chk cap) = share_lines (codes "chk") (verify_cap_of cap)
cap_lines (Verify cap) = share_lines (codes "verify") cap
cap_lines (Lit file) = codes "kind lit\nsize " ++ (decimal (length file) ++ codes "\n")
