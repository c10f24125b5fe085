pub mod Reading
pub mod Kinds
pub mod Forms
pub mod Commands
pub mod WhatIfs
pub mod Texts
pub mod Streams
