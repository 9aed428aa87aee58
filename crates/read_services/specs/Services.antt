-- Rule 7: the service section, 2+7s bytes from i on.
use Rattle.std.specs.Prelude.{Bool, cond, ◌&&◌, List, [], ◌∷◌, ◌++◌, ℕ, ◌+◌, eqb}
use Rattle.std.specs.Bool.{beq}
use Rattle.basis.specs.declared.refusal.Refusal.TheVariants.{WrongMagic, ServiceFlagsMismatched}
use Rattle.basis.specs.Bytes.{byte, part}
use Rattle.basis.specs.Check.{Check, check_at, moved, size_check}
use Rattle.basis.specs.declared.test.SizeTest.TheVariants.{ServicesHead, ServicesWhole}
use Rattle.basis.specs.declared.test.ByteTest.TheVariants.{ServicesId, ServicesFlags}
use Rattle.basis.specs.declared.test.Test.TheVariants.{Byte}
use Rattle.basis.specs.Mask.{under, x0f}
use Rattle.values.specs.Layout.{section_head_size, section_length, services_id}
use Rattle.service_entries.specs.Entries.{section_checks}
use Rattle.service_list.specs.Section.{list_of}
use Rattle.service_list.specs.ServiceList.{list_present, list_absent}
use Rattle.service_list.specs.declared.list.MaybeServiceInfo.{MaybeServiceInfo}
use Rattle.service_list.specs.declared.list.ServiceInfo.{ServiceInfo}
use Rattle.values.specs.declared.flags.Flags.{Flags}

-- s is the low four bits of byte i+1
abbrev pub services_size : List ℕ → ℕ → ℕ
services_size p i = section_length (under x0f (byte p (i + 1)))

-- the section's own bytes
abbrev pub services_part : List ℕ → ℕ → List ℕ
services_part p i = part i (services_size p i) p

-- start, change and complete of the section are the header's
unfoldable pub same_flags : ServiceInfo → Flags → Bool
same_flags l f =
    beq l.start f.svc_info_start
    && (beq l.change f.svc_info_change && beq l.complete f.svc_info_complete)

-- 7.4: the section's flags are those of byte 4
abbrev pub flags_check : List ℕ → Flags → ℕ → Check
flags_check p f i = check_at 4 (Byte ServicesFlags) (same_flags (list_of (services_part p i)) f) ServiceFlagsMismatched

-- 7.1: n is at least i+2; 7.2: byte i is 73; 7.3: n is at least i+2+7s; S1 to S8; 7.4: the flags
abbrev pub services_checks : List ℕ → Flags → ℕ → List Check
services_checks p f i =
    size_check ServicesHead p (i + section_head_size)
    ∷ check_at i (Byte ServicesId) (eqb (byte p i) services_id) WrongMagic
    ∷ size_check ServicesWhole p (i + services_size p i)
    ∷ moved i (section_checks (services_part p i))
    ++ flags_check p f i ∷ []

-- the section's list, absent where there is no section
abbrev pub services_of : List ℕ → Bool → ℕ → MaybeServiceInfo
services_of p present i = cond present (list_present (list_of (services_part p i))) list_absent
