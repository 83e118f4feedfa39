-- Certificates that were worked out by hand, with their texts.
use Rattle.std.specs.Prelude.{◌≡◌, ◌-◌, ◌^◌, pos, negsuc, true, false, [], ◌∷◌, None, Some, codes}
use Rattle.certificates.specs.declared.lines.line.SectionKind.TheVariants.{Inside, Alone, Loops}
use Rattle.certificates.specs.declared.lines.line.CertLine.TheVariants.{Version, Root, Start, Node, Loop, Bound}
use Rattle.certificates.specs.CertLines.{line_text}
use Rattle.certificates.specs.declared.cert.CertSection.{CertSection}
use Rattle.certificates.specs.Certificate.{Certificate, sort_of}
use Rattle.certificates.specs.Texts.{text_of}
use Rattle.certificates.specs.Drafts.{Blank, Versioned, Begun, Whole, put, empty_section}

-- a method that never ends
abbrev pub smallest : Certificate
smallest = record { version = 1; root = 0; sections = []; bound = None }

abbrev pub called : CertSection
called = record { kind = Inside; method = 3; section = record { nodes = (0, pos 12) ∷ []; loops = [] } }

abbrev pub calling : CertSection
calling = record {
  kind = Loops;
  method = 7;
  section = record {
    nodes = (0, pos 176) ∷ (2, pos 4) ∷ (3, negsuc 0) ∷ (4, pos 1)
        ∷ [];
    loops = record { header = 2; iteration_cost = 7; members = 2 ∷ 3 ∷ 4 ∷ []; region = true } ∷ [];
  };
}

-- a method with a region, and one that it calls
abbrev pub with_sections : Certificate
with_sections = record { version = 2; root = 7; sections = called ∷ calling ∷ []; bound = Some 176 }

-- whole texts, numbers at their ends, what may not stand where, and what stands once
pub record WorkedTexts : Type 0 where
  pub text_of_smallest : text_of smallest ≡ codes "JOPC 1\nroot 0\nbound never\n"
  pub text_of_sections : text_of with_sections ≡ codes "JOPC 2\nroot 7\nsection inside 3\nnode 0 12\nsection loops 7\nnode 0 176\nnode 1 4\nraise 1 -1\nnode 2 1\nregion 1 7 1 1r 2\nbound 176\n"
  pub greatest_potential : line_text (Node 4294967294 (pos (2 ^ 64 - 1))) ≡ codes "node 2147483647 18446744073709551615"
  pub least_potential : line_text (Node 4294967295 (negsuc (2 ^ 64 - 2))) ≡ codes "raise 2147483647 -18446744073709551615"
  pub greatest_loop : line_text (Loop (record {
    region = false;
    header = 4294967294;
    cost = 2 ^ 64 - 1;
    members = 0 ∷ 1
        ∷ [];
  })) ≡ codes "loop 2147483647 18446744073709551615 0 0r"
  pub greatest_method : line_text (Start Alone 4294967295) ≡ codes "section alone 4294967295"
  pub no_cycle : line_text (Bound (Some 0)) ≡ codes "bound 0"
  pub root_first : put Blank (Root 0) ≡ None
  pub version_twice : put (Versioned 1) (Version 1) ≡ None
  pub node_in_no_section : put (Begun 1 0 [] None) (Node 0 (pos 0)) ≡ None
  pub node_behind_loop : put (Begun 2 7 (called ∷ []) (Some calling)) (Node 8 (pos 0)) ≡ None
  pub behind_bound : put (Whole smallest) (Bound None) ≡ None
  pub alone_beside_loops : sort_of (empty_section Alone 5) ≡ sort_of (empty_section Loops 5)
